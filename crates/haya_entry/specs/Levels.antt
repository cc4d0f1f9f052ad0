-- The ancestors of an entry, level by level, and what it is to ask them one after another.
use Rattle.std.specs.Prelude.{◌≡◌, ◌≢◌, AllPairs, ℕ, zero, suc, ◌+◌, ◌-◌, ◌≤◌, max, List, [], ◌∷◌, ◌++◌, length, map, flat_map, Option, None, Some}
use Rattle.std.specs.Borrow.{Bor}
use Rattle.std.specs.List.{range_with_len}
use Rattle.std.specs.Option.{option_map_or}
use Rattle.haya_entry.specs.declared.entry.Entry.{Entry}
use Rattle.haya_entry.specs.Tree.{Tree, Trees, node, no_trees, one_more, at, parents, size, view}

-- the places of the parents of the entry at a path
abbrev pub parent_places : Tree → List ℕ → List ℕ
parent_places x path = option_map_or (λ t. range_with_len 0 (length (parents t))) (at x path) []

-- the paths of a level, in order: each of the level before, followed by each place among the
-- parents there
abbrev pub level : Tree → ℕ → List (List ℕ)
level x zero = [] ∷ []
level x (suc d) = flat_map (λ path. map (λ i. path ++ i ∷ []) (parent_places x path)) (level x d)

-- how many levels there are above the entry
abbrev mutual
  pub height : Tree → ℕ
  height (node f ps) = heights ps

  pub heights : Trees → ℕ
  heights no_trees = 0
  heights (one_more t ts) = max (1 + height t) (heights ts)

-- the levels from one on, joined
abbrev pub levels_from : Tree → ℕ → List (List ℕ)
levels_from x d = flat_map (level x) (range_with_len d (height x + 1 - d))

-- the paths of all ancestors: the parents, then all parents of these, and so on
abbrev pub ancestors : Tree → List (List ℕ)
ancestors x = levels_from x 1

-- A function is called at the entries of some paths, one after another, each call beginning in the
-- state that the one before left, until one answers: so many calls, this answer, and that last
-- state.
pub data Asks {S E T : Type 0} (value : E → Tree) (step : S → E → Option T → S → Type 0) (x : Tree)
    : S → List (List ℕ) → ℕ → Option T → S → Type 0 where
  all_asked : {s : S} → Asks value step x s [] 0 None s
  first_answers : {s u : S} {path : List ℕ} {paths : List (List ℕ)} {e : E} {y : T} →
      at x path ≡ Some (value e) → step s e (Some y) u →
      Asks value step x s (path ∷ paths) 1 (Some y) u
  rest_asked : {s u t : S} {path : List ℕ} {paths : List (List ℕ)} {e : E} {n : ℕ}
      {answer : Option T} → at x path ≡ Some (value e) → step s e None u →
      Asks value step x u paths n answer t →
      Asks value step x s (path ∷ paths) (1 + n) answer t

-- all of these are asked, until one answers
abbrev pub AsksAll : {S T : Type 0} → (S → Bor Entry → Option T → S → Type 0)
    → Tree → S → List (List ℕ) → Option T → Type 0
AsksAll {S} step x s paths answer =
    (n : ℕ) × (u : S) × Asks (λ e. view e.now) step x s paths n answer u

-- the same, and the steps from one count to another are at least one for each call
abbrev pub AsksAllWithin : {S T : Type 0} → (S → Bor Entry → Option T → S → Type 0)
    → Tree → S → List (List ℕ) → Option T → ℕ → ℕ → Type 0
AsksAllWithin {S} step x s paths answer from to =
    (n : ℕ) × (u : S) × Asks (λ e. view e.now) step x s paths n answer u × (from + n ≤ to)

-- the ancestors are all entries above, each once
abbrev pub AncestorsOnce : Type 0
AncestorsOnce =
    (x : Tree) → (size x ≡ 1 + length (ancestors x)) × AllPairs (λ p q. p ≢ q) (ancestors x)
