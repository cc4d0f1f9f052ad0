-- What is shown of an error.
use Rattle.std.specs.Prelude.{ℕ, List, ◌++◌, codes}
use Rattle.std.specs.Fmt.{decimal}
use Rattle.haya_bibtex_text.specs.declared.fault.Fault.{Fault}
use Rattle.haya_bibtex_text.specs.declared.fault.FaultKind.{FaultKind}
use Rattle.haya_bibtex_text.specs.declared.fault.FaultKind.TheVariants as kind
use Rattle.haya_bibtex.specs.declared.error.BibtexReadError.{BibtexReadError}
use Rattle.haya_bibtex.specs.declared.error.BibtexReadError.TheVariants.{NotBibtex, OutOfMemory}

-- what is wrong, and what belongs there
abbrev pub kind_text : FaultKind → List ℕ
kind_text kind.Key = codes "no key: an entry begins with its key"
kind_text kind.Comma = codes "no comma: expected a comma or the closing bracket"
kind_text kind.Name = codes "no name: expected a field or the closing bracket"
kind_text kind.Equals = codes "no equals sign: expected = behind the name of a field"
kind_text kind.Value = codes "no value: put a text in braces or quotation marks"
kind_text kind.Brace = codes "brace: this closes no brace"
kind_text kind.Open = codes "open: the end of this entry or text is missing"
kind_text kind.Strings = codes "strings: they would stand for more than 64 times the text"

-- a fault behind its place
abbrev pub fault_text : Fault → List ℕ
fault_text f =
    codes "line " ++ (decimal f.line
    ++ (codes ", column " ++ (decimal f.column ++ (codes ": " ++ kind_text f.kind))))

abbrev pub error_text : BibtexReadError → List ℕ
error_text (NotBibtex f) = fault_text f
error_text OutOfMemory = codes "out of memory"
