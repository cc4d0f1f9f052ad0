-- The names of faults.
use Rattle.std.specs.Prelude.{ℕ, List, codes}
use Rattle.haya_bibtex_text.specs.declared.fault.FaultKind.{FaultKind}
use Rattle.haya_bibtex_text.specs.declared.fault.FaultKind.TheVariants.{Brace, Comma, Equals, Key, Name, Open, Strings, Value}

abbrev pub fault_name : FaultKind → List ℕ
fault_name Key = codes "key"
fault_name Comma = codes "comma"
fault_name Name = codes "name"
fault_name Equals = codes "equals"
fault_name Value = codes "value"
fault_name Brace = codes "brace"
fault_name Open = codes "open"
fault_name Strings = codes "strings"
