-- Members at positions, where `A i j` says that the member `i` is accepted at the position `j`.
use Rattle.std.specs.Prelude.{◌≡◌, ◌≢◌, ℕ, ◌<◌, ◌≤◌, Bool, false, true, [], List, get_or, length}
use Rattle.haya_assignment.specs.Assignment.{Table}

-- the table has it that the member is accepted at the position
unfoldable pub accepts : Table → ℕ → ℕ → Bool
accepts table i j = get_or (get_or table i []) j false

-- no two of the numbers are equal
abbrev pub IsApart : List ℕ → Type 0
IsApart xs = (i j : ℕ) → i < j → j < length xs → get_or xs i 0 ≢ get_or xs j 0

-- the two lists have the same numbers before a place
abbrev pub SameBelow : ℕ → List ℕ → List ℕ → Type 0
SameBelow n xs ys = (k : ℕ) → k < n → get_or xs k 0 ≡ get_or ys k 0

-- the longer list begins with the shorter
pub record Grows (xs ys : List ℕ) : Type 0 where
  pub longer : length xs ≤ length ys
  pub same : SameBelow (length xs) xs ys

-- each member but one is accepted at its position, which no other of them has
pub record IsPlacedBut (A : ℕ → ℕ → Bool) (other : ℕ) (positions : List ℕ) : Type 0 where
  pub accepted : (i : ℕ) → i < length positions → i ≢ other → A i (get_or positions i 0) ≡ true
  pub apart : (i j : ℕ) → i < j → j < length positions → i ≢ other → j ≢ other →
      get_or positions i 0 ≢ get_or positions j 0

-- each member is accepted at its position, which no other has
pub record IsPlaced (A : ℕ → ℕ → Bool) (positions : List ℕ) : Type 0 where
  pub accepted : (i : ℕ) → i < length positions → A i (get_or positions i 0) ≡ true
  pub apart : IsApart positions

-- at each member below `n` where an assignment first differs, that one has the greater position
abbrev pub IsLeastBelow : (ℕ → ℕ → Bool) → ℕ → List ℕ → Type 0
IsLeastBelow A n positions = (others : List ℕ) → IsPlaced A others →
    length positions ≤ length others → (k : ℕ) → k < n → SameBelow k positions others →
    get_or positions k 0 ≤ get_or others k 0
