-- What a text says.
use Rattle.std.specs.Prelude.{◌≡◌, ◌≤◌, ◌↔◌, ℕ, List, Bool, true, false, Option, Some, None}
use Rattle.std.specs.Str.Lines.{lines}
use Rattle.json.specs.Json.{Json, document, max_depth}
use Rattle.json.specs.Print.{print}
use Rattle.json.specs.Strict.{HasUniqueKeys}
use Rattle.json.specs.Tree.{depth, json_tokens}
use Rattle.haya_yaml.specs.Documents.{ended, is_printable, lines_value, unmarked}

-- a text without the byte order mark at its front and the carriage return at its end
abbrev pub content : List ℕ → List ℕ
content text = ended (unmarked text)

-- the lines of a text say a value that nests no deeper than JSON may
pub record ContentSays (text : List ℕ) (j : Json) : Type 0 where
  pub printable : is_printable text ≡ true
  pub said : lines_value (lines text) ≡ Some j
  pub shallow : depth j ≤ max_depth

abbrev pub LinesSay : List ℕ → Json → Type 0
LinesSay text j = ContentSays (content text) j

-- what a text says that is this as JSON, or none
abbrev pub says_if : Option Json → List ℕ → Json → Type 0
says_if (Some k) text j = k ≡ j
says_if None text j = LinesSay text j

-- A text that is JSON says what it says as JSON, and any other what its lines say; no map has a
-- name twice.
pub record TextSays (text : List ℕ) (j : Json) : Type 0 where
  pub says : says_if (document text) text j
  pub unique : HasUniqueKeys j

-- the bytes are the JSON of a value, as it is printed, and they read as that value
pub record IsPrinted (bytes : List ℕ) (j : Json) : Type 0 where
  pub printed : bytes ≡ print (json_tokens j)
  pub read : document bytes ≡ Some j

-- the bytes are the JSON of the value that the text says
abbrev pub IsJsonOf : List ℕ → List ℕ → Type 0
IsJsonOf text bytes = (j : Json) × TextSays text j × IsPrinted bytes j

-- the bytes are read as JSON exactly where this holds of a value, as that value, and are what is
-- printed of it
pub record IsJsonIf (Said : Json → Type 0) (bytes : List ℕ) : Type 0 where
  pub printed : (j : Json) → Said j → bytes ≡ print (json_tokens j)
  pub same : (j : Json) → (document bytes ≡ Some j) ↔ Said j

-- the bytes are the JSON of the value that the text says, in which a map may have a name twice
abbrev pub IsJsonFor : List ℕ → List ℕ → Type 0
IsJsonFor text bytes = IsJsonIf (says_if (document text) text) bytes

-- the text says no value
abbrev pub SaysNothing : List ℕ → Type 0
SaysNothing text = (j : Json) → TextSays text j → ⊥

-- the bytes are JSON that has no name twice
pub record IsStrict (bytes : List ℕ) (j : Json) : Type 0 where
  pub read : document bytes ≡ Some j
  pub unique : HasUniqueKeys j
  pub shallow : depth j ≤ max_depth

-- they are not
abbrev pub NotStrict : List ℕ → Type 0
NotStrict bytes = (j : Json) → document bytes ≡ Some j → HasUniqueKeys j → ⊥

abbrev pub Strictness : List ℕ → Bool → Type 0
Strictness bytes true = (j : Json) × IsStrict bytes j
Strictness bytes false = NotStrict bytes
