-- Ranks of members: what has a lesser rank is out of reach for what has a greater one.
use Rattle.std.specs.Prelude.{◌≡◌, ◌≢◌, ℕ, ◌<◌, ◌≤◌, ◌⊎◌, Bool, false, true, List, Option}
use Rattle.std.specs.Prelude.{Some, get_or, length, slice_get}
use Rattle.haya_assignment.specs.Search.{AreLayers}
use Rattle.haya_assignment.specs.declared.ranks.Ranks.{Ranks}

-- the position is that of a member whose rank is at most this one
pub record IsRankedAt (ranks positions : List ℕ) (rank j : ℕ) : Type 0 where
  pub holder : ℕ
  pub known : holder < length positions
  pub there : get_or positions holder 0 ≡ j
  pub low : get_or ranks holder 0 ≤ rank

-- the members before the first have rank 0; each of the others that has a rank below the top is
-- accepted only at positions of members whose ranks are at most its own
pub record AreRanked (A : ℕ → ℕ → Bool) (first : ℕ) (r : Ranks) (positions : List ℕ)
    : Type 0 where
  pub as_many : length r.ranks.items ≡ length positions
  pub next : 0 < r.next
  pub fixed : (v : ℕ) → v < first → get_or r.ranks.items v 0 ≡ 0
  pub later : (v : ℕ) → first ≤ v → v < length positions → 0 < get_or r.ranks.items v 0
  pub given : (v : ℕ) → v < length positions →
      (get_or r.ranks.items v 0 < r.next) ⊎ (get_or r.ranks.items v 0 ≡ r.top)
  pub below_top : r.next ≤ r.top
  pub within : (v j : ℕ) → first ≤ v → v < length positions →
      get_or r.ranks.items v 0 < r.top → A v j ≡ true →
      IsRankedAt r.ranks.items positions (get_or r.ranks.items v 0) j

-- a search for the member reached these: its layers are of members that can move, as the flags say,
-- which are those of lesser ranks
pub record IsLayered (A : ℕ → ℕ → Bool) (member : ℕ) (positions : List ℕ) (stays : List Bool)
    (holders : List (Option ℕ)) (r : Ranks) (members layers : List ℕ) : Type 0 where
  pub one : get_or members 0 0 ≡ member
  pub held : (j u : ℕ) → slice_get holders j ≡ Some (Some u) →
      (u < length positions) × (u ≢ member) × (get_or positions u 0 ≡ j)
  pub low : (u : ℕ) → get_or stays u false ≡ true →
      get_or r.ranks.items u 0 < get_or r.ranks.items member 0
  pub high : (u : ℕ) → get_or stays u false ≡ false → u < length positions →
      get_or r.ranks.items member 0 ≤ get_or r.ranks.items u 0
  pub moves : (t : ℕ) → 0 < t → t < length layers →
      get_or stays (get_or members t 0) false ≡ false
  pub closed : AreLayers A stays holders members layers
