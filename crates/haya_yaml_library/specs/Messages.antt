-- What an error shows: the place, what is wrong, and what to write instead.
use Rattle.std.specs.Prelude.{ℕ, List, ◌++◌, None, Some, codes}
use Rattle.std.specs.Fmt.{decimal}
use Rattle.haya_json.specs.Messages as json
use Rattle.haya_yaml.specs.declared.error.Fault.{Fault}
use Rattle.haya_yaml_text.specs.declared.fault.FaultKind.{FaultKind}
use Rattle.haya_yaml_text.specs.declared.fault.FaultKind.TheVariants as kind
use Rattle.haya_yaml_library.specs.declared.error.YamlReadError.{YamlReadError}
use Rattle.haya_yaml_library.specs.declared.error.YamlReadError.TheVariants.{NotYaml, OutOfMemory, Refused}

-- the name of a fault, and what to write instead
abbrev pub kind_text : FaultKind → List ℕ
kind_text kind.ControlCharacter = codes "control character: write it as an escape in double quotes"
kind_text kind.Directive = codes "directive: only one %YAML 1.2 is read, and --- behind it"
kind_text kind.SecondDocument = codes "second document: give it a file of its own"
kind_text kind.Tab = codes "tab: indent with spaces"
kind_text kind.Indent = codes "indent: no entry begins in this column"
kind_text kind.NoKey = codes "no key: a line of a map has a key and a colon"
kind_text kind.NestedKey = codes "nested key: put a value with a colon in quotes"
kind_text kind.EmptyKey = codes "empty key: write a key before the colon"
kind_text kind.ExplicitKey = codes "explicit key: write the key before its colon, without the ?"
kind_text kind.DuplicateKey = codes "duplicate key: its map has this key before"
kind_text kind.MergeKey = codes "merge key: write its members out"
kind_text kind.KeyOverLines = codes "key over lines: write a key and its colon on one line"
kind_text kind.Pair = codes "pair: put braces around a key and its value"
kind_text kind.Anchor =
    codes "anchor: write the value out where it is used, or put a text in quotes"
kind_text kind.Alias = codes "alias: write the value out, or put a text in quotes"
kind_text kind.Tag = codes "tag: leave it out, or put a text in quotes"
kind_text kind.Indicator = codes "indicator: put a text that begins so in quotes"
kind_text kind.Unclosed = codes "unclosed: the end of this quote or bracket is missing"
kind_text kind.Escape = codes "escape: write \\\\ for the sign itself"
kind_text kind.Flow = codes "flow: expected a value, a comma or the closing bracket"
kind_text kind.Behind = codes "behind: the value ends before this"
kind_text kind.Header = codes "header: behind | or > there is at most a digit and a sign"
kind_text kind.Blank = codes "blank: this line of spaces is longer than the indent of the text"
kind_text kind.TooDeep = codes "too deep: more than 128 lists and maps inside one another"

-- a fault behind its place
abbrev pub fault_text : Fault → List ℕ
fault_text f =
    codes "line " ++ (decimal f.line
    ++ (codes ", column " ++ (decimal f.column ++ (codes ": " ++ kind_text f.kind))))

abbrev pub error_text : YamlReadError → List ℕ
error_text (NotYaml f) = fault_text f
error_text (Refused (Some line) e) =
    codes "line " ++ (decimal line ++ (codes ": " ++ json.error_text e))
error_text (Refused None e) = json.error_text e
error_text OutOfMemory = codes "out of memory"
