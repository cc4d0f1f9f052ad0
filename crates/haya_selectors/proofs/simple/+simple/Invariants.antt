use Rattle.std.proofs.Common.{◌≡◌, suc, ◌+◌, ◌*◌, drop, map, take, true}
use Rattle.std.specs.Prelude.{is_some, max, position, sum_by}
use Rattle.haya_entry.specs.Tree.{view}
use Rattle.haya_selectors.specs.Calls.{calls, first_calls, first_calls_on}
use Rattle.haya_selectors.specs.Compiled.{above}
use Rattle.haya_selectors.specs.Holds.{holds, some_holds, first_candidates}
use Rattle.haya_selectors.specs.Nodes.{chain_at, members_at, syntax_at}
use Rattle.haya_selectors.specs.Places.{items_up_to}
use Rattle.haya_selectors.specs.Simple.{all_simple}
use Rattle.haya_selectors.proofs.Walks.{to_find, to_sum}
use Rattle.haya_selectors.proofs.simple.+simple.Given as goal

-- a call goes to a node of a smaller number, or on the same node from a list to its entries
abbrev pub decreases-whole_simple_holds_at : goal.decreases-whole_simple_holds_at
decreases-whole_simple_holds_at l = 8 * l.number + 1

abbrev pub decreases-simple_holds_at : goal.decreases-simple_holds_at
decreases-simple_holds_at l = 8 * l.number + 2

abbrev pub decreases-simple_chain_holds_at : goal.decreases-simple_chain_holds_at
decreases-simple_chain_holds_at l = 8 * max (suc l.first) (above l.others.now)

abbrev pub decreases-first_simple : goal.decreases-first_simple
decreases-first_simple l = 8 * l.number + 3

abbrev pub decreases-simple_holds_on : goal.decreases-simple_holds_on
decreases-simple_holds_on l = 8 * l.number + 4

abbrev pub decreases-simple_has_on : goal.decreases-simple_has_on
decreases-simple_has_on l = 8 * l.number + 5

abbrev pub decreases-any_simple_holds_at : goal.decreases-any_simple_holds_at
decreases-any_simple_holds_at l = 8 * above l.members.now

abbrev pub decreases-any_simple_holds_on : goal.decreases-any_simple_holds_on
decreases-any_simple_holds_on l = 8 * above l.members.now

-- what the members that are left say is what all say
abbrev pub invariant-any_simple_holds_at-loop-member : goal.invariant-any_simple_holds_at-loop-member
invariant-any_simple_holds_at-loop-member l =
    let all = members_at l.nodes l.members in
    let rest = members_at l.nodes (drop l.member-index l.members) in
    let x = view l.asked in
    (some_holds rest x ≡ some_holds all x)
    × (l.steps + first_calls rest x ≡ l.fn.steps + first_calls all x)
    × (all_simple rest ≡ true)

abbrev pub invariant-any_simple_holds_on-loop-member : goal.invariant-any_simple_holds_on-loop-member
invariant-any_simple_holds_on-loop-member l =
    let all = members_at l.nodes l.members in
    let rest = members_at l.nodes (drop l.member-index l.members) in
    let xs = map view l.parents in
    (is_some (first_candidates rest xs) ≡ is_some (first_candidates all xs))
    × (l.steps + first_calls_on rest xs ≡ l.fn.steps + first_calls_on all xs)
    × (all_simple rest ≡ true)

-- what the chain so far says
abbrev pub invariant-simple_chain_holds_at-others : goal.invariant-simple_chain_holds_at-others
invariant-simple_chain_holds_at-others l =
    let so_far = chain_at l.nodes l.first (take l.other-index l.others) in
    let x = view l.asked in
    (l.holds ≡ holds so_far x) × (l.steps ≡ l.fn.steps + calls so_far x)

-- the places that are left
abbrev pub invariant-first_simple-loop-place : goal.invariant-first_simple-loop-place
invariant-first_simple-loop-place l =
    let s = syntax_at l.nodes l.number in
    let xs = map view l.parents in
    (to_find (holds s) (calls s) l.parents l.place ≡ position (holds s) xs)
    × (l.steps + to_sum (holds s) (calls s) l.parents l.place ≡ l.fn.steps + sum_by (calls s) (items_up_to (holds s) xs))
