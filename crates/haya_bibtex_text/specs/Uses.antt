-- Uses of strings: a name of a string in a value stands for its text, which may be longer than all that
-- is written. What strings stand for in a text has room for so many characters.
use Rattle.std.specs.Prelude.{◌≡◌, ℕ, ◌+◌, ◌-◌, ◌*◌, ◌^◌, false, List, [], ◌∷◌, ◌++◌, Option, Some, None, length, min, nat_le, MatchResult, Result, Ok, Err, if◌then◌else◌}
use Rattle.haya_bibtex_text.specs.Bibliography.{keys_behind, strings_behind}
use Rattle.haya_bibtex_text.specs.Fields.{RawField}
use Rattle.haya_bibtex_text.specs.Items.{RawItem, sign, strings, entry}
use Rattle.haya_bibtex_text.specs.Names.{Names}
use Rattle.haya_bibtex_text.specs.Pieces.{RawPiece, text, name, fault}
use Rattle.haya_bibtex_text.specs.Predefined.{predefined_strings}
use Rattle.haya_bibtex_text.specs.Stops.{StopsBy}
use Rattle.haya_bibtex_text.specs.Strings.{Strings, lowercase, with_definition}
use Rattle.haya_bibtex_text.specs.declared.fault.FaultKind.TheVariants as kind
use Rattle.haya_bibtex_text.specs.declared.fault.Refusal.{Refusal}
use Rattle.haya_bibtex_text.specs.declared.fault.Stop.{Stop}

-- a use: how many characters of the text are left at the name, and how many the string has
pub record Use : Type 0 where
  pub left : ℕ
  pub size : ℕ

-- a name of no string is none
abbrev pub use_of : ℕ → Option (List ℕ) → List Use
use_of left None = []
use_of left (Some t) = record { left = left; size = length t } ∷ []

abbrev pub piece_uses : Strings → RawPiece → List Use
piece_uses ss (text t) = []
piece_uses ss (name left n) = use_of left (ss (lowercase n))

abbrev pub value_uses : Strings → List RawPiece → List Use
value_uses ss [] = []
value_uses ss (p ∷ ps) = piece_uses ss p ++ value_uses ss ps

-- those in the fields of an entry
abbrev pub field_uses : Strings → List RawField → List Use
field_uses ss [] = []
field_uses ss (f ∷ fs) = value_uses ss f.value ++ field_uses ss fs

-- those in definitions, each behind those before it
abbrev pub definition_uses : Strings → List RawField → List Use
definition_uses ss [] = []
definition_uses ss (f ∷ fs) = value_uses ss f.value ++ definition_uses (with_definition ss f) fs

-- an entry whose key came before has none, since it is passed over
abbrev pub item_uses : Strings → Names → RawItem → List Use
item_uses ss keys sign = []
item_uses ss keys (strings fs) = definition_uses ss fs
item_uses ss keys (entry kind key fs) = if keys key then [] else field_uses ss fs

abbrev pub uses_behind : Strings → Names → List RawItem → List Use
uses_behind ss keys [] = []
uses_behind ss keys (i ∷ is) =
    item_uses ss keys i ++ uses_behind (strings_behind ss i) (keys_behind keys i) is

-- the uses of strings in the items of a text, in order
abbrev pub uses : List RawItem → List Use
uses is = uses_behind predefined_strings (λ _. false) is

-- the room that is left behind uses, or a fault at the first one that there is no room for
abbrev pub spend : ℕ → List Use → Result ℕ Refusal
spend room [] = Ok room
spend room (u ∷ us) =
    if nat_le u.size room then spend (room - u.size) us else Err (fault kind.Strings u.left)

-- the room of a text: 64 characters for each of its own, and 65,536 more
abbrev pub room_of : List ℕ → ℕ
room_of cs = min (64 * length cs + 65536) (2 ^ 64 - 1)

-- uses leave this much room, or the fault is theirs
abbrev pub Spends : {A : Type 0} → ℕ → List Use → ℕ → Result A Stop → Type 0
Spends old us new r = MatchResult r (λ _. spend old us ≡ Ok new) (StopsBy (λ f. spend old us ≡ Err f))
