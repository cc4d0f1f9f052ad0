-- Where a selector holds: at an entry, and on a list of parents, where it may have candidates.
use Rattle.std.specs.Prelude.{ℕ, Bool, true, false, not, ◌||◌, ◌&&◌, if◌then◌else◌, List, [], ◌∷◌, Option, None, Some, is_some, option_and_then, option_map, filter, map, position}
use Rattle.std.specs.Option.{option_or}
use Rattle.haya_entry.specs.Names.{is_of_type, has_all}
use Rattle.haya_entry.specs.Tree.{Tree, parents}
use Rattle.haya_assignment.specs.Assignment.{Table, least}
use Rattle.haya_selectors.specs.Places.{places, at_place}
use Rattle.haya_selectors.specs.Syntax.{Syntax, Wildcard, Entry, Neg, Binding, Attr, Alt, Multi, Ancestrage, Syntaxes, none, more}

-- the places, if there are any
abbrev pub some_places : List ℕ → Option (List ℕ)
some_places [] = None
some_places (i ∷ is) = Some (i ∷ is)

-- the first place where the test holds, as a list of one
abbrev pub first_place : (Tree → Bool) → List Tree → Option (List ℕ)
first_place test xs = option_map (λ i. i ∷ []) (position test xs)

-- the candidates that have every name; where there are none, nothing is tested
abbrev pub kept_places : List (List ℕ) → List Tree → List ℕ → Option (List ℕ)
kept_places names xs [] = Some []
kept_places names xs (i ∷ is) = some_places (filter (at_place false (has_all names) xs) (i ∷ is))

abbrev mutual
  -- whether the selector holds at an entry
  pub holds : Syntax → Tree → Bool
  holds Wildcard x = true
  holds (Entry t) x = is_of_type t x
  holds (Neg s) x = not (holds s x)
  holds (Binding n s) x = holds s x
  holds (Attr s names) x = holds s x && has_all names x
  holds (Alt ss) x = some_holds ss x
  holds (Multi ss) x = false
  holds (Ancestrage l r) x = holds l x && is_some (candidates r (parents x))

  pub some_holds : Syntaxes → Tree → Bool
  some_holds none x = false
  some_holds (more s ss) x = holds s x || some_holds ss x

  -- the places on a list of parents that the selector stands for, or none where it doesn't hold
  -- there
  pub candidates : Syntax → List Tree → Option (List ℕ)
  candidates Wildcard xs = some_places (places xs)
  candidates (Entry t) xs = first_place (is_of_type t) xs
  candidates (Neg s) xs = if is_some (candidates s xs) then None else Some []
  candidates (Binding n s) xs = option_map (λ _. []) (candidates s xs)
  candidates (Attr s names) xs = option_and_then (kept_places names xs) (candidates s xs)
  candidates (Alt ss) xs = first_candidates ss xs
  candidates (Multi ss) xs = least (table_of ss xs)
  candidates (Ancestrage l r) xs =
      first_place (λ x. holds l x && is_some (candidates r (parents x))) xs

  -- those of the first member that holds
  pub first_candidates : Syntaxes → List Tree → Option (List ℕ)
  first_candidates none xs = None
  first_candidates (more s ss) xs = option_or (candidates s xs) (first_candidates ss xs)

  -- for each member a row, which says of each entry whether the member holds there
  pub table_of : Syntaxes → List Tree → Table
  table_of none xs = []
  table_of (more s ss) xs = map (holds s) xs ∷ table_of ss xs
