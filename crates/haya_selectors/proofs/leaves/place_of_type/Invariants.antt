use Rattle.std.proofs.Common.{◌≡◌, ◌+◌, map}
use Rattle.std.specs.Prelude.{position, sum_by}
use Rattle.haya_entry.specs.Names.{is_of_type}
use Rattle.haya_entry.specs.Tree.{view}
use Rattle.haya_selectors.specs.Places.{items_up_to}
use Rattle.haya_selectors.proofs.Walks.{to_find, to_sum}
use Rattle.haya_selectors.proofs.leaves.place_of_type.Given as goal

-- the places that are left
abbrev pub invariant-loop-place : goal.invariant-loop-place
invariant-loop-place l =
    let test = is_of_type l.entry_type in
    let xs = map view l.parents in
    (to_find test (λ _. 1) l.parents l.place ≡ position test xs)
    × (l.steps + to_sum test (λ _. 1) l.parents l.place ≡ l.fn.steps + sum_by (λ _. 1) (items_up_to test xs))
