-- What is printed of hits.
use Rattle.std.specs.Prelude.{◌≡◌, ◌⊎◌, ◌<◌, ℕ, Any, Bool, IsTrue, List, [], ◌∷◌, ◌++◌, codes, map, None}
use Rattle.std.specs.Cmp.Lexicographic.{slice_cmp}
use Rattle.std.specs.List.Sorted.{IsStrictlySortedBy}
use Rattle.std.specs.Map.{keys_of, lookup}
use Rattle.std.specs.Ordering.{nat_cmp}
use Rattle.std.specs.Str.{bytes_eq}
use Rattle.json.specs.Json as json
use Rattle.json.specs.Json.{Json, Members, max_depth}
use Rattle.json.specs.Layout.{pretty}
use Rattle.json.specs.Print.{print}
use Rattle.json.specs.Tree.{depth as nesting, json_tokens}
use Rattle.hayagriva.specs.Library.{key_of}
use Rattle.hayagriva.specs.Query.{hit_entry}
use Rattle.hayagriva.specs.Tree.{Tree}
use Rattle.hayagriva.specs.declared.query.Hit.{Hit}
use Rattle.haya_hits.specs.Line.{AreLines, IsEscapedLineOf, bound_key}
use Rattle.haya_json.specs.Printed.{json_of, library_json}
use Rattle.haya_lines.specs.Signs.{line_feed}
use Rattle.haya_printing.specs.LeftOut.{AreLinesOf, IsPrintable, Named}
use Rattle.haya_printing.specs.declared.error.LinesError.{LinesError}
use Rattle.haya_printing.specs.declared.error.LinesError.TheVariants.{OutOfMemory}
use Rattle.haya_yaml_library.specs.Writing.{SaysJson}
use Rattle.haya_command.specs.declared.form.Form.{Form}
use Rattle.haya_command.specs.declared.form.Form.TheVariants.{Keys, Lines, Hayagriva, Yaml, JsonLines}

-- ---- a line of JSON

-- a member of each name's key, and then these members
abbrev pub name_members : List (List ℕ × List ℕ) → Members → Members
name_members [] ms = ms
name_members (p ∷ ps) ms = json.member p.0 (json.string p.1) (name_members ps ms)

-- the keys of what names are bound to
abbrev pub names_json : List (List ℕ × List ℕ) → Json
names_json names = json.object (name_members names json.no_members)

abbrev pub hit_json : List ℕ → List (List ℕ × List ℕ) → Tree → Json
hit_json key names t =
    json.object
    (json.member (codes "key") (json.string key)
    (json.member (codes "bindings") (names_json names)
    (json.member (codes "entry") (json_of None t) json.no_members)))

-- the entry's JSON, inside the object of its line, nests no deeper than a reader takes
abbrev pub FitsLine : Tree → Type 0
FitsLine t = nesting (json_of None t) < max_depth

-- the line of a hit: an object of its key, of each name that it binds, in byte order, and of its
-- entry, and a line feed
pub record IsJsonLineOf (hit : Hit) (line : List ℕ) : Type 0 where
  pub names : List (List ℕ × List ℕ)
  pub all : (name : List ℕ) → lookup (bytes_eq name) names ≡ bound_key hit name
  pub order : IsStrictlySortedBy (slice_cmp nat_cmp) (keys_of names)
  pub text : line ≡
      print (json_tokens (hit_json (key_of (hit_entry hit)) names (hit_entry hit)))
      ++ line_feed ∷ []

-- ---- the lines of an entry

-- the lines of what they can say of a hit's entry: in a strict run all of it
pub record IsPrintedOf (strict : Bool) (hit : Hit) (text : List ℕ) : Type 0 where
  pub left : Named
  pub lines : AreLinesOf (hit_entry hit) text left
  pub whole : IsTrue strict → left ≡ []

-- why entries aren't printed in a form: memory is out, or in a strict run no lines say one of them
abbrev pub IsLinesFault : Bool → Form → List Tree → LinesError → Type 0
IsLinesFault strict form entries e =
    (e ≡ OutOfMemory)
    ⊎ (IsTrue strict × (form ≡ Lines) × Any (λ t. ¬ IsPrintable t) entries)

-- ---- all hits

-- a library in hayagriva's file format, laid out, and a line feed
abbrev pub library_text : List Tree → List ℕ
library_text library = pretty (json_tokens (library_json library)) ++ line_feed ∷ []

-- a library's JSON, as it is printed
abbrev pub library_bytes : List Tree → List ℕ
library_bytes library = print (json_tokens (library_json library))

-- A text that says in YAML what the library's JSON says; where that nests too deep to be read, or
-- has a key twice, it is the JSON, laid out.
abbrev pub IsLibraryInYaml : List Tree → List ℕ → Type 0
IsLibraryInYaml library text =
    SaysJson (library_bytes library) text ⊎ (text ≡ library_text library)

-- the text of hits in a form, in a run that is strict or isn't
abbrev pub IsTextOf : Bool → Form → List Hit → List ℕ → Type 0
IsTextOf strict Keys hits text = AreLines IsEscapedLineOf hits text
IsTextOf strict Lines hits text = AreLines (IsPrintedOf strict) hits text
IsTextOf strict Hayagriva hits text = text ≡ library_text (map hit_entry hits)
IsTextOf strict Yaml hits text = IsLibraryInYaml (map hit_entry hits) text
IsTextOf strict JsonLines hits text = AreLines IsJsonLineOf hits text
