-- What the names of a selector are bound to where it holds: pairs of a name and the path of an
-- entry.
use Rattle.std.specs.Prelude.{Bool, ℕ, if◌then◌else◌, List, [], ◌∷◌, ◌++◌, Option, None, Some, is_some, option_and_then, option_map, map, find, position, reverse}
use Rattle.std.specs.Option.{option_map_or}
use Rattle.std.specs.Str.{bytes_eq}
use Rattle.haya_entry.specs.Tree.{Tree, parents, at}
use Rattle.haya_selectors.specs.Holds.{holds, candidates}
use Rattle.haya_selectors.specs.Places.{at_place}
use Rattle.haya_selectors.specs.Syntax.{Syntax, Wildcard, Entry, Neg, Binding, Attr, Alt, Multi, Ancestrage, Syntaxes, none, more}

-- pairs of a name and a path
abbrev pub Pairs : Type 0
Pairs = List (List ℕ × List ℕ)

-- the pairs of the entry at a place of the list, each path led by that place
abbrev pub pairs_at : (Tree → Pairs) → List Tree → ℕ → Pairs
pairs_at pairs xs i = map (λ p. (p.0, i ∷ p.1)) (at_place [] pairs xs i)

-- those of the first entry where the test holds
abbrev pub pairs_at_first : (Tree → Bool) → (Tree → Pairs) → List Tree → Pairs
pairs_at_first test pairs xs = option_map_or (pairs_at pairs xs) (position test xs) []

-- the name with the first candidate, if there is one
abbrev pub pair_of_first : List ℕ → Option (List ℕ) → Pairs
pair_of_first n None = []
pair_of_first n (Some []) = []
pair_of_first n (Some (i ∷ is)) = (n, i ∷ []) ∷ []

abbrev mutual
  -- the pairs at an entry where the selector holds
  pub binds : Syntax → Tree → Pairs
  binds Wildcard x = []
  binds (Entry t) x = []
  binds (Neg s) x = []
  binds (Binding n s) x = binds s x ++ (n, []) ∷ []
  binds (Attr s names) x = binds s x
  binds (Alt ss) x = first_binds ss x
  binds (Multi ss) x = []
  binds (Ancestrage l r) x = binds l x ++ binds_on r (parents x)

  -- those of the first member that holds
  pub first_binds : Syntaxes → Tree → Pairs
  first_binds none x = []
  first_binds (more s ss) x = if holds s x then binds s x else first_binds ss x

  -- the pairs on a list of parents where the selector holds
  pub binds_on : Syntax → List Tree → Pairs
  binds_on Wildcard xs = []
  binds_on (Entry t) xs = []
  binds_on (Neg s) xs = []
  binds_on (Binding n s) xs = binds_on s xs ++ pair_of_first n (candidates s xs)
  binds_on (Attr s names) xs = binds_on s xs
  binds_on (Alt ss) xs = first_binds_on ss xs
  binds_on (Multi ss) xs = option_map_or (each_binds ss xs) (candidates (Multi ss) xs) []
  binds_on (Ancestrage l r) xs =
      pairs_at_first (holds (Ancestrage l r)) (λ x. binds l x ++ binds_on r (parents x)) xs

  pub first_binds_on : Syntaxes → List Tree → Pairs
  first_binds_on none xs = []
  first_binds_on (more s ss) xs =
      if is_some (candidates s xs) then binds_on s xs else first_binds_on ss xs

  -- those of each member at its place
  pub each_binds : Syntaxes → List Tree → List ℕ → Pairs
  each_binds none xs is = []
  each_binds (more s ss) xs [] = []
  each_binds (more s ss) xs (i ∷ is) = pairs_at (binds s) xs i ++ each_binds ss xs is

-- what stands beside the name in its last pair
abbrev pub last_of : {A : Type 0} → List ℕ → List (List ℕ × A) → Option A
last_of q pairs = option_map (λ p. p.1) (find (λ p. bytes_eq p.0 q) (reverse pairs))

-- whether the name is bound where the selector holds
abbrev pub is_bound : Syntax → Tree → List ℕ → Bool
is_bound s x q = is_some (last_of q (binds s x))

-- the entry that the name is bound to where the selector holds
abbrev pub bound_to : Syntax → Tree → List ℕ → Option Tree
bound_to s x q = option_and_then (at x) (last_of q (binds s x))

-- the same, and no entry where the selector doesn't hold
abbrev pub bound_select : Syntax → Tree → List ℕ → Option Tree
bound_select s x q = if holds s x then bound_to s x q else None
