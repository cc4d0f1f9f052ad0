-- Entries and libraries written as JSON.
use Rattle.std.specs.Prelude.{◌≡◌, ◌⊎◌, ℕ, List, [], ◌∷◌, ◌++◌, Option, None, Some, Vec, codes, flat_map, option_and_then}
use Rattle.std.specs.declared.alloc.Global.{Global}
use Rattle.json.specs.Json.{Json, member, no_members, object, string}
use Rattle.json.specs.Print.{print}
use Rattle.json.specs.Tree.{json_tokens}
use Rattle.haya_entry.specs.Tree.{Tree, fields}
use Rattle.haya_json.specs.Printed.{json_of, library_json}
use Rattle.hayagriva_c.specs.Asking.{IsWritten, Leaves}
use Rattle.hayagriva_c.specs.Reading.{numbered}
use Rattle.hayagriva_c.specs.Texts.{TextIs}
use Rattle.hayagriva_c.specs.declared.content.Content.TheVariants.{Text}
use Rattle.hayagriva_c.specs.declared.fault.Written.{Written}
use Rattle.hayagriva_c.specs.declared.reading.Format.{Format}
use Rattle.hayagriva_c.specs.declared.reading.Format.TheVariants as format

-- an object of an entry's key, and of the entry in the file format
abbrev pub line_json : Tree → Json
line_json t =
    object (member (codes "key") (string (fields t).key)
    (member (codes "entry") (json_of None t) no_members))

abbrev pub line_text : Tree → List ℕ
line_text t = print (json_tokens (line_json t))

-- such a line for each entry
abbrev pub lines_text : List Tree → List ℕ
lines_text library = flat_map (λ t. line_text t ++ 10 ∷ []) library

-- the text of a library in a format, if there is one
abbrev pub text_in : List Tree → Format → Option (List ℕ)
text_in library format.Lines = None
text_in library format.Json = Some (print (json_tokens (library_json library)))
text_in library format.Csl = None
text_in library format.Yaml = None
text_in library format.Bibtex = None
text_in library format.JsonLines = Some (lines_text library)

-- the entry's line is written, or out of memory, or there is no entry
abbrev pub JsonGives : Option Tree → ℕ → ℕ → List ℕ → List ℕ → Type 0
JsonGives None code len old new = Leaves 2 code len old new
JsonGives (Some t) code len old new =
    IsWritten (line_text t) code len old new ⊎ Leaves 6 code len old new

-- the bytes of a text, which what is written holds
pub record GivesText (t : List ℕ) (c : ℕ) (written : Written) : Type 0 where
  pub bytes : Vec ℕ Global
  pub are : bytes.items ≡ t
  pub text : TextIs bytes written.text
  pub holds : written.bytes.content ≡ Some (Text bytes)
  pub code : c ≡ 0

abbrev pub Puts : List ℕ → ℕ → Written → Written → Type 0
Puts text code old new = GivesText text code new ⊎ ((code ≡ 6) × (new ≡ old))

abbrev pub PutsIf : Option (List ℕ) → ℕ → Written → Written → Type 0
PutsIf None code old new = (code ≡ 7) × (new ≡ old)
PutsIf (Some text) code old new = Puts text code old new

-- what may be a library is written in the format with a number
abbrev pub WriteGives : Option (List Tree) → ℕ → ℕ → Written → Written → Type 0
WriteGives None format code old new = (code ≡ 4) × (new ≡ old)
WriteGives (Some library) format code old new =
    PutsIf (option_and_then (text_in library) (numbered format)) code old new
