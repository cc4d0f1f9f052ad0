-- What an error shows: the place as a JSON Pointer, and the reason.
use Rattle.std.specs.Prelude.{ℕ, List, ◌++◌, ◌==◌, flat_map, map, codes, if◌then◌else◌}
use Rattle.std.specs.Char.{encode_utf8}
use Rattle.std.specs.Fmt.{decimal}
use Rattle.std.specs.Str.{chars}
use Rattle.haya_json.specs.Refusal.{StepView, to_member, to_item, step_view}
use Rattle.haya_json.specs.declared.error.ElementError.{ElementError}
use Rattle.haya_json.specs.declared.error.JsonLineError.{JsonLineError}
use Rattle.haya_json.specs.declared.error.ReadError.{ReadError}
use Rattle.haya_json.specs.declared.error.ReadError.TheVariants.{NotJson, NameTwice, Refused, OutOfMemory}
use Rattle.haya_json.specs.declared.fault.Why.{Why}
use Rattle.haya_json.specs.declared.position.Position.{Position}
use Rattle.haya_json.specs.declared.fault.Why.TheVariants.{NotObject, NotEntries, NotList, NotText, NotTruth, NotWhole, Missing, Twice, UnknownType, UnknownRole, NotChunks, NotPerson, NotDate, NotNumber, NotDuration}

-- a character of a name in a pointer: `~0` for a tilde, and `~1` for a slash
abbrev pub pointer_char : ℕ → List ℕ
pointer_char c =
    if c == 126 then codes "~0" else if c == 47 then codes "~1" else encode_utf8 c

abbrev pub pointer_name : List ℕ → List ℕ
pointer_name name = flat_map pointer_char (chars name)

-- a step behind its slash
abbrev pub pointer_step : StepView → List ℕ
pointer_step (to_member name) = codes "/" ++ pointer_name name
pointer_step (to_item n) = codes "/" ++ decimal n

-- the pointer to the value at the end of these steps
abbrev pub pointer : List StepView → List ℕ
pointer path = flat_map pointer_step path

abbrev pub why_text : Why → List ℕ
why_text NotObject = codes "expected an object"
why_text NotEntries = codes "expected an entry or a list of entries"
why_text NotList = codes "expected a list"
why_text NotText = codes "expected a text"
why_text NotTruth = codes "expected true or false"
why_text NotWhole = codes "expected a whole number"
why_text Missing = codes "missing"
why_text Twice = codes "given twice"
why_text UnknownType = codes "unknown type"
why_text UnknownRole = codes "unknown role"
why_text NotChunks = codes "a brace closes no group"
why_text NotPerson = codes "no person"
why_text NotDate = codes "no date"
why_text NotNumber = codes "no number"
why_text NotDuration = codes "no duration"

abbrev pub position_text : Position → List ℕ
position_text p = codes "line " ++ (decimal p.line ++ (codes ", column " ++ decimal p.column))

abbrev pub error_text : ReadError → List ℕ
error_text (NotJson p) = position_text p ++ codes ": invalid JSON"
error_text (NameTwice p) = position_text p ++ codes ": duplicate member"
error_text (Refused path why) =
    pointer (map step_view path.items) ++ (codes ": " ++ why_text why)
error_text OutOfMemory = codes "out of memory"

-- an error of the line with this number: a position in the line is shown as that of the text
abbrev pub text_in_line : ℕ → ReadError → List ℕ
text_in_line n (NotJson p) = error_text (NotJson (record p { line = n }))
text_in_line n (NameTwice p) = error_text (NameTwice (record p { line = n }))
text_in_line n (Refused path why) =
    codes "line " ++ (decimal n ++ (codes ": " ++ error_text (Refused path why)))
text_in_line n OutOfMemory =
    codes "line " ++ (decimal n ++ (codes ": " ++ error_text OutOfMemory))

abbrev pub line_error_text : JsonLineError → List ℕ
line_error_text e = text_in_line e.line e.error

-- an error of the element with this number: a position is one in the element, a path one in the text
abbrev pub text_in_element : ℕ → ReadError → List ℕ
text_in_element n (NotJson p) =
    codes "element " ++ (decimal n ++ (codes ", " ++ error_text (NotJson p)))
text_in_element n (NameTwice p) =
    codes "element " ++ (decimal n ++ (codes ", " ++ error_text (NameTwice p)))
text_in_element n e = error_text e

abbrev pub element_error_text : ElementError → List ℕ
element_error_text e = text_in_element e.number e.error
