-- How often the evaluator is entered for a selector: once a form at each entry, or list of parents,
-- that it is asked of.
use Rattle.std.specs.Prelude.{ℕ, ◌+◌, if◌then◌else◌, List, is_some, sum_by}
use Rattle.haya_entry.specs.Names.{is_of_type}
use Rattle.haya_entry.specs.Tree.{Tree, parents}
use Rattle.haya_selectors.specs.Holds.{holds, candidates}
use Rattle.haya_selectors.specs.Places.{items_up_to}
use Rattle.haya_selectors.specs.Syntax.{Syntax, Wildcard, Entry, Neg, Binding, Attr, Alt, Multi, Ancestrage, Syntaxes, none, more}

abbrev mutual
  -- the calls for a selector at an entry
  pub calls : Syntax → Tree → ℕ
  calls Wildcard x = 1
  calls (Entry t) x = 1
  calls (Neg s) x = 1 + calls s x
  calls (Binding n s) x = 1 + calls s x
  calls (Attr s names) x = 1 + calls s x
  calls (Alt ss) x = 1 + first_calls ss x
  calls (Multi ss) x = 1
  calls (Ancestrage l r) x = 1 + calls l x + (if holds l x then calls_on r (parents x) else 0)

  -- those of the members, up to the first that holds
  pub first_calls : Syntaxes → Tree → ℕ
  first_calls none x = 0
  first_calls (more s ss) x = calls s x + (if holds s x then 0 else first_calls ss x)

  -- the calls for a selector on a list of parents
  pub calls_on : Syntax → List Tree → ℕ
  calls_on Wildcard xs = 1
  calls_on (Entry t) xs = 1 + sum_by (λ _. 1) (items_up_to (is_of_type t) xs)
  calls_on (Neg s) xs = 1 + calls_on s xs
  calls_on (Binding n s) xs = 1 + calls_on s xs
  calls_on (Attr s names) xs = 1 + calls_on s xs
  calls_on (Alt ss) xs = 1 + first_calls_on ss xs
  calls_on (Multi ss) xs = 1 + all_calls ss xs
  calls_on (Ancestrage l r) xs =
      1 + sum_by (λ x. 1 + calls l x + (if holds l x then calls_on r (parents x) else 0))
      (items_up_to (holds (Ancestrage l r)) xs)

  pub first_calls_on : Syntaxes → List Tree → ℕ
  first_calls_on none xs = 0
  first_calls_on (more s ss) xs =
      calls_on s xs + (if is_some (candidates s xs) then 0 else first_calls_on ss xs)

  -- those of each member at each entry
  pub all_calls : Syntaxes → List Tree → ℕ
  all_calls none xs = 0
  all_calls (more s ss) xs = sum_by (calls s) xs + all_calls ss xs
