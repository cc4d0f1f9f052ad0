-- Members that are each given a position of their own, of those where they are accepted.
use Rattle.std.specs.Prelude.{◌≡◌, ◌≢◌, ◌<◌, ℕ, Bool, true, false, not, ◌==◌, List, [], ◌∷◌}
use Rattle.std.specs.Prelude.{Option, Some, AllPairs, Vec, filter, flat_map, get_or, length, map}
use Rattle.std.specs.Prelude.{option_and_then, option_map, slice_get, take}
use Rattle.std.specs.List.{AllZip, list_any, range_with_len}

-- for each member a row, which says of each position whether the member is accepted there
abbrev pub Table : Type 0
Table = List (List Bool)

-- the rows as they are stored
abbrev pub rows : {Z : Type 0} → List (Vec Bool Z) → Table
rows table = map (λ row. row.items) table

-- the row is true at the position
abbrev pub IsTrueAt : List Bool → ℕ → Type 0
IsTrueAt row i = slice_get row i ≡ Some true

-- distinct positions, one a row, each row true at its position
pub record IsAssignment (table : Table) (positions : List ℕ) : Type 0 where
  pub accepted : AllZip IsTrueAt table positions
  pub distinct : AllPairs (λ i j. i ≢ j) positions

-- the positions where the row is true, in ascending order
abbrev pub true_positions : List Bool → List ℕ
true_positions row = filter (λ i. get_or row i false) (range_with_len 0 (length row))

-- the positions without those that are taken
abbrev pub not_taken : List ℕ → List ℕ → List ℕ
not_taken taken positions = filter (λ i. not (list_any (λ t. t == i) taken)) positions

-- the assignments to positions that aren't taken: each position of the first row before those of
-- the other rows
abbrev pub assignments_beside : List ℕ → Table → List (List ℕ)
assignments_beside taken [] = [] ∷ []
assignments_beside taken (row ∷ rows) =
    flat_map (λ i. map (λ is. i ∷ is) (assignments_beside (i ∷ taken) rows))
    (not_taken taken (true_positions row))

-- all assignments, in order
abbrev pub assignments : Table → List (List ℕ)
assignments table = assignments_beside [] table

-- the first of them
abbrev pub least : Table → Option (List ℕ)
least table = slice_get (assignments table) 0

-- where the lists first differ, the first has the lesser position
pub record ComesBefore (is js : List ℕ) : Type 0 where
  pub place : ℕ
  pub same : take place is ≡ take place js
  pub less : get_or is place 0 < get_or js place 0

-- each row in turn takes its first position that isn't taken
abbrev pub greedy_beside : List ℕ → Table → Option (List ℕ)
greedy_beside taken [] = Some []
greedy_beside taken (row ∷ rows) =
    option_and_then (λ i. option_map (λ is. i ∷ is) (greedy_beside (i ∷ taken) rows))
    (slice_get (not_taken taken (true_positions row)) 0)

abbrev pub greedy : Table → Option (List ℕ)
greedy table = greedy_beside [] table

-- no two rows are true at one position
abbrev pub IsExclusive : Table → Type 0
IsExclusive table = AllPairs (λ row other. (i : ℕ) → IsTrueAt row i → ¬ IsTrueAt other i) table
