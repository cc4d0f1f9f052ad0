-- Members that move one after the other, and members that can't.
use Rattle.std.specs.Prelude.{◌≡◌, ◌≢◌, ℕ, ◌+◌, ◌<◌, Bool, false, true, List, Contains}
use Rattle.std.specs.Prelude.{get_or, length}
use Rattle.haya_assignment.specs.Placed.{IsApart, IsPlacedBut}
use Rattle.haya_assignment.specs.declared.search.Reached.{Reached}

-- members of so many, each but the first by way of one before it
pub record IsChain (member count : ℕ) (r : Reached) : Type 0 where
  pub one : get_or r.members.items 0 0 ≡ member
  pub in_count : member < count
  pub as_many : length r.from.items ≡ length r.members.items
  pub known : (t : ℕ) → t < length r.members.items → get_or r.members.items t 0 < count
  pub apart : IsApart r.members.items
  pub earlier : (t : ℕ) → 0 < t → t < length r.members.items → get_or r.from.items t 0 < t

-- the members that are flagged have the same positions in both
abbrev pub AreKept : List Bool → List ℕ → List ℕ → Type 0
AreKept stays xs ys = (u : ℕ) → get_or stays u false ≡ true → get_or xs u 0 ≡ get_or ys u 0

-- the member at the place can have the position, and each before it the position of the one that
-- it led to, the first one below the bound
pub record IsReady (A : ℕ → ℕ → Bool) (bound member : ℕ) (positions : List ℕ) (r : Reached)
    (at position : ℕ) : Type 0 where
  pub placed : IsPlacedBut A member positions
  pub chain : (t : ℕ) → 0 < t → t < at + 1 →
      A (get_or r.members.items (get_or r.from.items t 0) 0)
      (get_or positions (get_or r.members.items t 0) 0) ≡ true
  pub early : (t : ℕ) → 0 < t → t < at + 1 → get_or r.from.items t 0 ≡ 0 →
      get_or positions (get_or r.members.items t 0) 0 < bound
  pub accepted : A (get_or r.members.items at 0) position ≡ true
  pub free : (u : ℕ) → u < length positions → u ≢ member → get_or positions u 0 ≢ position
  pub end_early : at ≡ 0 → position < bound

-- the position is that of one of the members, not of the first of them
pub record IsTaken (positions members : List ℕ) (j : ℕ) : Type 0 where
  pub holder : ℕ
  pub other : holder ≢ get_or members 0 0
  pub there : get_or positions holder 0 ≡ j
  pub among : Contains members holder

-- different members of so many, and which is the first of them
pub record AreDistinct (member count : ℕ) (members : List ℕ) : Type 0 where
  pub some : 0 < length members
  pub one : get_or members 0 0 ≡ member
  pub known : (t : ℕ) → t < length members → get_or members t 0 < count
  pub apart : IsApart members

-- the members that are flagged are accepted at positions that are taken alone
pub record IsStuck (A : ℕ → ℕ → Bool) (member : ℕ) (positions : List ℕ) (flags : List Bool)
    : Type 0 where
  pub members : List ℕ
  pub distinct : AreDistinct member (length positions) members
  pub as_long : length flags ≡ length positions
  pub flagged : (u : ℕ) → get_or flags u false ≡ true → Contains members u
  pub set : (t : ℕ) → t < length members → get_or flags (get_or members t 0) false ≡ true
  pub taken : (t j : ℕ) → t < length members → A (get_or members t 0) j ≡ true →
      IsTaken positions members j
