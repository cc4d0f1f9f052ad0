-- The library that a JSON value says, and the one that a text does.
use Rattle.std.specs.Prelude.{◌≡◌, ℕ, List, [], ◌∷◌, Option, None, Some, IsSomeAnd, Result, Ok, Err, ⊤}
use Rattle.json.specs.Json as json
use Rattle.json.specs.Json.{Json, Members, document}
use Rattle.json.specs.Strict.{HasUniqueKeys}
use Rattle.haya_entry.specs.Tree.{Tree}
use Rattle.hayagriva.specs.Library.{push}
use Rattle.haya_json.specs.Refusal.{Refusal, refused, within, and_then, to_member, refusal_at}
use Rattle.haya_json.specs.Entries.{entry_of}
use Rattle.haya_json.specs.declared.fault.Why.TheVariants.{NotObject}
use Rattle.haya_json.specs.declared.error.ReadError.{ReadError}
use Rattle.haya_json.specs.declared.error.ReadError.TheVariants.{NotJson, NameTwice, Refused, OutOfMemory}

-- the entries of an object, each under its name
abbrev pub entries_of : Members → Result (List Tree) Refusal
entries_of json.no_members = Ok []
entries_of (json.member k j ms) =
    and_then (within (to_member k) (entry_of k None j)) (λ t.
    and_then (entries_of ms) (λ ts. Ok (t ∷ ts)))

-- the library that a value says: an object of its entries, in order
abbrev pub library_of : Json → Result (List Tree) Refusal
library_of (json.object ms) = entries_of ms
library_of _ = refused NotObject

-- the library after the entries of an object are pushed in turn, each under its name
abbrev pub entries_pushed : List Tree → Members → Result (List Tree) Refusal
entries_pushed library json.no_members = Ok library
entries_pushed library (json.member k j ms) =
    and_then (within (to_member k) (entry_of k None j)) (λ t. entries_pushed (push t library) ms)

-- the text is JSON in which no object has a name twice, and it says this library
pub record Describes (text : List ℕ) (library : List Tree) : Type 0 where
  pub value : Json
  pub parsed : document text ≡ Some value
  pub unique : HasUniqueKeys value
  pub read : library_of value ≡ Ok library

-- an error of a text that is no JSON, or out of memory
abbrev pub IsNotJson : ReadError → Type 0
IsNotJson (NotJson p) = ⊤
IsNotJson OutOfMemory = ⊤
IsNotJson _ = ⊥

-- an error of JSON in which an object has a member twice, or out of memory
abbrev pub IsNameTwice : ReadError → Type 0
IsNameTwice (NameTwice p) = ⊤
IsNameTwice OutOfMemory = ⊤
IsNameTwice _ = ⊥

-- what an error says of JSON that is read like this; None is that of a text that is no JSON
abbrev pub IsErrorOfJson : {T : Type 0} → (Json → Result T Refusal) → Option Json → ReadError
    → Type 0
IsErrorOfJson read json (NotJson p) = json ≡ None
IsErrorOfJson read json (NameTwice p) = IsSomeAnd json (λ j. ¬ HasUniqueKeys j)
IsErrorOfJson read json (Refused path why) =
    IsSomeAnd json (λ j. HasUniqueKeys j × (read j ≡ Err (refusal_at path.items why)))
IsErrorOfJson read json OutOfMemory = ⊤

-- what an error says of a text whose JSON is read like this
abbrev pub IsErrorOfReading : {T : Type 0} → (Json → Result T Refusal) → List ℕ → ReadError → Type 0
IsErrorOfReading read text error = IsErrorOfJson read (document text) error

abbrev pub IsErrorOf : List ℕ → ReadError → Type 0
IsErrorOf text error = IsErrorOfReading library_of text error
