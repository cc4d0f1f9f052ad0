-- What is told of the errors of a text.
use Rattle.std.specs.Prelude.{ℕ, List, [], ◌++◌, codes, map, string_bytes, unwrap_or}
use Rattle.std.specs.Fmt.{decimal}
use Rattle.haya_bibtex.specs.Messages as bibtex_messages
use Rattle.haya_bibtex.specs.declared.error.BibtexReadError.{BibtexReadError}
use Rattle.haya_bibtex.specs.declared.error.BibtexReadError.TheVariants as bibtex
use Rattle.haya_line_library.specs.declared.error.InputError.{InputError}
use Rattle.haya_line_library.specs.declared.error.InputError.TheVariants as input
use Rattle.haya_json.specs.Messages.{error_text, line_error_text, pointer}
use Rattle.haya_json.specs.Refusal.{step_view}
use Rattle.haya_json.specs.declared.error.JsonLineError.{JsonLineError}
use Rattle.haya_json.specs.declared.error.ReadError.{ReadError}
use Rattle.haya_json.specs.declared.error.ReadError.TheVariants as json
use Rattle.haya_json.specs.declared.position.Position.{Position}
use Rattle.hayagriva.specs.declared.SelectorError.{SelectorError}
use Rattle.hayagriva.specs.declared.SelectorError.TheVariants as selector
use Rattle.hayagriva_c.specs.Codes.{error_code, message_of}
use Rattle.hayagriva_c.specs.declared.told.Told.{Told}
use Rattle.haya_yaml_library.specs.Messages as yaml_messages
use Rattle.haya_yaml_library.specs.declared.error.YamlReadError.{YamlReadError}
use Rattle.haya_yaml_library.specs.declared.error.YamlReadError.TheVariants as yaml
use Rattle.haya_lines.specs.declared.error.LineError.{LineError}
use Rattle.haya_lines.specs.declared.error.LineError.TheVariants as variant
use Rattle.hayagriva_c.specs.Told.{IsMemoryTold, IsTold}

-- the code of a line's fault
abbrev pub line_code : LineError → ℕ
line_code variant.Shape = 204
line_code variant.Depth = 205
line_code variant.UnknownType = 206
line_code variant.UnknownField = 207
line_code variant.RefusedValue = 208
line_code variant.OutOfMemory = 6

-- the code of an error of JSON
abbrev pub json_code : ReadError → ℕ
json_code (json.NotJson position) = 201
json_code (json.NameTwice position) = 202
json_code (json.Refused path why) = 203
json_code json.OutOfMemory = 6

-- what is said of a line with the fault of a code
abbrev pub line_reason : ℕ → ℕ → List ℕ
line_reason line code = codes "line " ++ (decimal line ++ (codes ": " ++ message_of code))

abbrev pub IsToldOfLine : InputError → Told → Type 0
IsToldOfLine (input.Line line fault) =
    IsTold (line_code fault) 0 line 0 [] [] (line_reason line (line_code fault))
IsToldOfLine input.OutOfMemory = IsMemoryTold

-- the place of an error in JSON, and the pointer of the value that is refused
abbrev pub place_of : ReadError → Position
place_of (json.NotJson p) = p
place_of (json.NameTwice p) = p
place_of (json.Refused path why) = record { line = 0; column = 0 }
place_of json.OutOfMemory = record { line = 0; column = 0 }

abbrev pub pointer_of : ReadError → List ℕ
pointer_of (json.NotJson p) = []
pointer_of (json.NameTwice p) = []
pointer_of (json.Refused path why) = pointer (map step_view path.items)
pointer_of json.OutOfMemory = []

abbrev pub IsToldOfJson : ReadError → Told → Type 0
IsToldOfJson e =
    IsTold (json_code e) 0 (place_of e).line (place_of e).column (pointer_of e) [] (error_text e)

abbrev pub IsToldOfJsonLine : JsonLineError → Told → Type 0
IsToldOfJsonLine e =
    IsTold (json_code e.error) 0 e.line (place_of e.error).column (pointer_of e.error) []
    (line_error_text e)

-- what is no YAML has a place in the text, and a refused value the line of its key, if that is known
abbrev pub IsToldOfYaml : YamlReadError → Told → Type 0
IsToldOfYaml (yaml.NotYaml f) =
    IsTold 209 0 f.line f.column [] [] (yaml_messages.error_text (yaml.NotYaml f))
IsToldOfYaml (yaml.Refused line e) =
    IsTold (json_code e) 0 (unwrap_or line 0) 0 (pointer_of e) []
    (yaml_messages.error_text (yaml.Refused line e))
IsToldOfYaml yaml.OutOfMemory = IsMemoryTold

abbrev pub IsToldOfBibtex : BibtexReadError → Told → Type 0
IsToldOfBibtex (bibtex.NotBibtex f) =
    IsTold 210 0 f.line f.column [] [] (bibtex_messages.error_text (bibtex.NotBibtex f))
IsToldOfBibtex bibtex.OutOfMemory = IsMemoryTold

-- the name that is unknown
abbrev pub unknown_name : SelectorError → List ℕ
unknown_name selector.MissingValue = []
unknown_name selector.MalformedAttribute = []
unknown_name selector.MissingComma = []
unknown_name selector.UnbalancedParens = []
unknown_name (selector.UnknownEntryType name) = string_bytes name
unknown_name selector.OutOfMemory = []

abbrev pub IsToldOfSelector : ℕ → SelectorError → Told → Type 0
IsToldOfSelector offset e =
    IsTold (error_code e) offset 0 0 [] (unknown_name e)
    (codes "byte " ++ (decimal offset ++ (codes ": " ++ message_of (error_code e))))
