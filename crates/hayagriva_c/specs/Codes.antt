-- What the codes say.
use Rattle.std.specs.Prelude.{ℕ, List, ◌==◌, codes, if◌then◌else◌}
use Rattle.hayagriva.specs.declared.SelectorError.{SelectorError}
use Rattle.hayagriva.specs.declared.SelectorError.TheVariants as error

-- the code of a selector's error: that of its fault, or out of memory
abbrev pub error_code : SelectorError → ℕ
error_code error.MissingValue = 101
error_code error.MalformedAttribute = 102
error_code error.MissingComma = 103
error_code error.UnbalancedParens = 104
error_code (error.UnknownEntryType name) = 105
error_code error.OutOfMemory = 6

-- what a code says, in words
abbrev pub message_of : ℕ → List ℕ
message_of code =
    if code == 0 then codes "done" else
    if code == 1 then codes "no more hits" else
    if code == 2 then codes "no such entry" else
    if code == 3 then codes "no such field" else
    if code == 4 then codes "another kind of pointer" else
    if code == 5 then codes "not UTF-8" else
    if code == 6 then codes "out of memory" else
    if code == 7 then codes "no such format or form" else
    if code == 8 then codes "parentheses that nest too deep" else
    if code == 9 then codes "not one entry" else
    if code == 10 then codes "no such part" else
    if code == 11 then codes "not a number" else
    if code == 101 then codes "missing value" else
    if code == 102 then codes "malformed attribute" else
    if code == 103 then codes "missing comma" else
    if code == 104 then codes "unbalanced parentheses" else
    if code == 105 then codes "unknown entry type" else
    if code == 201 then codes "invalid JSON" else
    if code == 202 then codes "duplicate member" else
    if code == 203 then codes "a value is refused" else
    if code == 204 then codes "shape" else
    if code == 205 then codes "depth" else
    if code == 206 then codes "type" else
    if code == 207 then codes "field" else
    if code == 208 then codes "value" else
    if code == 209 then codes "invalid YAML" else
    if code == 210 then codes "invalid BibTeX" else codes "no such code"
