-- The library that a text says in YAML.
use Rattle.std.specs.Prelude.{◌≡◌, ℕ, List, Some, Ok, ⊤}
use Rattle.json.specs.Json.{Json}
use Rattle.haya_entry.specs.Tree.{Tree}
use Rattle.haya_json.specs.Libraries.{IsErrorOfJson, library_of}
use Rattle.haya_json.specs.Notes.{NotesView, kept_of}
use Rattle.haya_json.specs.Told.{told}
use Rattle.haya_json.specs.declared.error.ReadError.{ReadError}
use Rattle.haya_yaml.specs.Says.{SaysNothing, TextSays}
use Rattle.haya_yaml_library.specs.declared.error.YamlReadError.{YamlReadError}
use Rattle.haya_yaml_library.specs.declared.error.YamlReadError.TheVariants.{NotYaml, OutOfMemory, Refused}

-- the text says a value in YAML, which says this library
pub record DescribesAsYaml (text : List ℕ) (library : List Tree) : Type 0 where
  pub value : Json
  pub says : TextSays text value
  pub read : library_of value ≡ Ok library

-- this is kept of what is told of the library that a text says
pub record TellsAsYaml (text : List ℕ) (kept : NotesView) : Type 0 where
  pub value : Json
  pub says : TextSays text value
  pub same : kept ≡ kept_of (told value)

-- the text says a value in YAML, and this error is what JSON has of it
pub record RefusesValue (text : List ℕ) (e : ReadError) : Type 0 where
  pub value : Json
  pub says : TextSays text value
  pub error : IsErrorOfJson library_of (Some value) e

-- what an error says of a text
abbrev pub IsYamlErrorOf : List ℕ → YamlReadError → Type 0
IsYamlErrorOf text (NotYaml f) = SaysNothing text
IsYamlErrorOf text (Refused line e) = RefusesValue text e
IsYamlErrorOf text OutOfMemory = ⊤
