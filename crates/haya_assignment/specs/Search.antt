-- What a search for a position keeps, and what it finds.
use Rattle.std.specs.Prelude.{◌≡◌, ◌≢◌, ℕ, ◌+◌, ◌<◌, ◌≤◌, ◌⊎◌, Bool, false, true, List, Option}
use Rattle.std.specs.Prelude.{Some, None, All, Contains, get_or, length, slice_get, vec_len}
use Rattle.haya_assignment.specs.Assignment.{rows}
use Rattle.haya_assignment.specs.Placed.{accepts, Grows, IsApart}
use Rattle.haya_assignment.specs.declared.search.Reached.{Reached}
use Rattle.haya_assignment.specs.declared.search.Setting.{Setting}

-- the holders are members below a number
abbrev pub AreBelow : ℕ → List (Option ℕ) → Type 0
AreBelow n holders = (j u : ℕ) → slice_get holders j ≡ Some (Some u) → u < n

-- of each position its holder, if one of the members but `other` has it
pub record AreHolders (other parents : ℕ) (positions : List ℕ) (holders : List (Option ℕ))
    : Type 0 where
  pub as_many : length holders ≡ parents
  pub free : (j : ℕ) → slice_get holders j ≡ Some None →
      (u : ℕ) → u < length positions → u ≢ other → get_or positions u 0 ≢ j
  pub held : (j u : ℕ) → slice_get holders j ≡ Some (Some u) →
      (u < length positions) × (u ≢ other) × (get_or positions u 0 ≡ j)

-- the member is accepted at the position, which the other has
pub record IsVia (A : ℕ → ℕ → Bool) (holders : List (Option ℕ)) (member other : ℕ) : Type 0 where
  pub position : ℕ
  pub held : slice_get holders position ≡ Some (Some other)
  pub accepted : A member position ≡ true

-- members that were reached, each but the first one that can move, by way of one before it, which
-- is accepted at its position; `stays` flags those that can't move, `seen` those reached
pub record IsReached (A : ℕ → ℕ → Bool) (stays : List Bool) (holders : List (Option ℕ))
    (members from : List ℕ) (seen : List Bool) : Type 0 where
  pub some : 0 < length members
  pub as_many : length from ≡ length members
  pub known : (t : ℕ) → t < length members → get_or members t 0 < length seen
  pub flagged : (u : ℕ) → get_or seen u false ≡ true → Contains members u
  pub flags : (t : ℕ) → t < length members → get_or seen (get_or members t 0) false ≡ true
  pub apart : IsApart members
  pub moves : (t : ℕ) → 0 < t → t < length members →
      get_or stays (get_or members t 0) false ≡ false
  pub earlier : (t : ℕ) → 0 < t → t < length members → get_or from t 0 < t
  pub via : (t : ℕ) → 0 < t → t < length members →
      IsVia A holders (get_or members (get_or from t 0) 0) (get_or members t 0)

abbrev pub Reaches : (ℕ → ℕ → Bool) → List Bool → List (Option ℕ) → Reached → Type 0
Reaches A stays holders r =
    IsReached A stays holders r.members.items r.from.items r.seen.items

-- the members reached by way of the first have positions below a bound
abbrev pub IsEarly : ℕ → List (Option ℕ) → Reached → Type 0
IsEarly bound holders r = (t : ℕ) → 0 < t → t < length r.members.items →
    get_or r.from.items t 0 ≡ 0 →
    (j : ℕ) × (slice_get holders j ≡ Some (Some (get_or r.members.items t 0))) × (j < bound)

-- the member is accepted at the position, which is free
abbrev pub IsFree : (ℕ → ℕ → Bool) → List (Option ℕ) → ℕ → ℕ → Type 0
IsFree A holders i j = (A i j ≡ true) × (slice_get holders j ≡ Some None)

-- the position is held by a member that stays, or by one reached
pub record IsClosed (stays : List Bool) (holders : List (Option ℕ)) (members : List ℕ) (j : ℕ)
    : Type 0 where
  pub holder : ℕ
  pub held : slice_get holders j ≡ Some (Some holder)
  pub which : (get_or stays holder false ≡ true) ⊎ Contains members holder

-- the positions where the reached members after the first are accepted, up to a place, are closed
abbrev pub IsSearched : (ℕ → ℕ → Bool) → List Bool → ℕ → List (Option ℕ) → List ℕ → Type 0
IsSearched A stays end holders members = (t j : ℕ) → 0 < t → t < end →
    A (get_or members t 0) j ≡ true → IsClosed stays holders members j

-- so are those of all of them, and of the first below a bound
pub record IsSearchedBelow (A : ℕ → ℕ → Bool) (stays : List Bool) (bound : ℕ)
    (holders : List (Option ℕ)) (members : List ℕ) : Type 0 where
  pub later : IsSearched A stays (length members) holders members
  pub below : (j : ℕ) → j < bound → A (get_or members 0 0) j ≡ true →
      IsClosed stays holders members j

-- the position is held by a member that stays, or by one of these layers or of lower ones
pub record IsWithin (stays : List Bool) (holders : List (Option ℕ)) (members layers : List ℕ)
    (layer j : ℕ) : Type 0 where
  pub holder : ℕ
  pub held : slice_get holders j ≡ Some (Some holder)
  pub which : (get_or stays holder false ≡ true)
      ⊎ ((s : ℕ) × (s < length layers) × (get_or members s 0 ≡ holder)
      × (get_or layers s 0 ≤ layer))

-- the layers of the members that were reached first: each but the first of them is accepted only
-- at positions of those that stay, and of those of its layer and lower ones
pub record AreLayers (A : ℕ → ℕ → Bool) (stays : List Bool) (holders : List (Option ℕ))
    (members layers : List ℕ) : Type 0 where
  pub fewer : length layers ≤ length members
  pub within : (t j : ℕ) → 0 < t → t < length layers → A (get_or members t 0) j ≡ true →
      IsWithin stays holders members layers (get_or layers t 0) j

-- a member reached, at a place, that is accepted at a free position; a way to it leads by way of a
-- position of the first below which there is none
pub record HasFound (A : ℕ → ℕ → Bool) (stays : List Bool) (holders : List (Option ℕ))
    (r : Reached) (at position : ℕ) : Type 0 where
  pub in_reached : at < length r.members.items
  pub free : IsFree A holders (get_or r.members.items at 0) position
  pub bound : ℕ
  pub early : IsEarly (bound + 1) holders r
  pub end_early : at ≡ 0 → position < bound + 1
  pub before : List ℕ
  pub some : 0 < length before
  pub grown : Grows before r.members.items
  pub searched : IsSearchedBelow A stays bound holders before

-- of each member one up to it that is accepted at the same positions
pub record AreAlike (A : ℕ → ℕ → Bool) (alike : List ℕ) : Type 0 where
  pub known : (u : ℕ) → u < length alike → get_or alike u 0 ≤ u
  pub same : (u j : ℕ) → u < length alike → A (get_or alike u 0) j ≡ A u j

-- whether a member is accepted at a position
abbrev pub acceptance : Setting → ℕ → ℕ → Bool
acceptance s = accepts (rows s.table.now)

-- what a search goes by is of as many members and positions, and those alike are
pub record Fits (s : Setting) : Type 0 where
  pub width : All (λ row. vec_len row ≡ s.parents) s.table.now
  pub rows : length s.stays.now ≤ length s.table.now
  pub as_many : length s.holders.now ≡ s.parents
  pub held : AreBelow (length s.stays.now) s.holders.now
  pub likes : length s.alike.now ≡ length s.table.now
  pub alike : AreAlike (acceptance s) s.alike.now

-- the positions are closed where those members are accepted whose like is flagged
pub record AreScanned (A : ℕ → ℕ → Bool) (stays : List Bool) (holders : List (Option ℕ))
    (alike : List ℕ) (r : Reached) : Type 0 where
  pub as_many : length r.scanned.items ≡ length r.seen.items
  pub closed : (u j : ℕ) → u < length alike →
      get_or r.scanned.items (get_or alike u 0) false ≡ true → A u j ≡ true →
      IsClosed stays holders r.members.items j
