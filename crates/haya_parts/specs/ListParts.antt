-- A list in JSON, divided into its elements.
use Rattle.std.specs.Prelude.{◌≡◌, ℕ, List, [], ◌∷◌, ◌++◌}
use Rattle.std.specs.List.{AllByRecursion}
use Rattle.haya_json_elements.specs.Steps.{closing_bracket, opening_bracket}
use Rattle.haya_json_elements.specs.declared.place.Brackets.{Brackets}
use Rattle.haya_slices.specs.Coming.{HasSeen}
use Rattle.haya_slices.specs.Layout.{AreSeparated, IsElement, IsLaidOut, IsWhite}
use Rattle.haya_slices.specs.Scan.{BeginsByte}
use Rattle.haya_slices.specs.declared.coming.Search.{Search}
use Rattle.haya_parts.specs.declared.list_parts.ListParts.{ListParts}
use Rattle.haya_parts.specs.declared.list_parts.ListPlace.{ListPlace}
use Rattle.haya_parts.specs.declared.list_parts.ListPlace.TheVariants.{Front, Opened, Next, Closed}

-- the text is white space in front of what is left
abbrev pub IsBehindWhite : List ℕ → List ℕ → Type 0
IsBehindWhite text rest = (front : List ℕ) × (text ≡ front ++ rest) × IsWhite front

-- whatever elements the rest of a list has, the text has those that were found, and then these
abbrev pub IsLaidOutBut : Brackets → List ℕ → List (List ℕ) → List ℕ → Type 0
IsLaidOutBut b text found rest =
    (p : List ℕ) (ps : List (List ℕ)) (list back : List ℕ)
    → rest ≡ list ++ closing_bracket b ∷ back → AreSeparated (p ∷ ps) list
    → AllByRecursion (IsElement b) (p ∷ ps) → IsWhite back → IsLaidOut b text (found ++ p ∷ ps)

-- what is known of a text at a place: its elements so far, and the rest
abbrev pub IsAt : Brackets → ListPlace → List ℕ → List (List ℕ) → List ℕ → Type 0
IsAt b Front text parts rest = (parts ≡ []) × IsBehindWhite text rest
IsAt b Opened text parts rest = (parts ≡ []) × BeginsByte (opening_bracket b) text rest
IsAt b Next text parts rest = IsLaidOutBut b text parts rest
IsAt b Closed text parts rest = IsWhite rest → IsLaidOut b text parts

-- how far the rest is looked at, where an element may begin
abbrev pub IsSeen : Brackets → ListPlace → List ℕ → Search → Type 0
IsSeen b Front rest search = Unit {0}
IsSeen b Opened rest search = HasSeen b rest search
IsSeen b Next rest search = HasSeen b rest search
IsSeen b Closed rest search = Unit {0}

-- both
pub record ListDivides {B : Type 0} (b : Brackets) (d : ListParts B) (text : List ℕ)
    (parts : List (List ℕ)) (rest : List ℕ) : Type 0 where
  pub at : IsAt b d.place text parts rest
  pub seen : IsSeen b d.place rest d.search

-- the elements of a whole list
abbrev pub AreElements : {B : Type 0} → Brackets → ListParts B → List ℕ → List (List ℕ) → Type 0
AreElements b d text parts = IsLaidOut b text parts
