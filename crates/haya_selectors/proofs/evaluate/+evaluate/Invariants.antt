use Rattle.std.proofs.Common.{◌≡◌, suc, ◌+◌, ◌*◌, ◌++◌, drop, map, take}
use Rattle.std.specs.Prelude.{◌&&◌, ◌||◌, max, position, sum_by}
use Rattle.std.specs.Bool.{OnTrue}
use Rattle.std.specs.List.{list_any}
use Rattle.haya_entry.specs.Tree.{view}
use Rattle.haya_selectors.specs.Binds.{binds, first_binds, first_binds_on}
use Rattle.haya_selectors.specs.Evaluation.{AddsAt, KeepsFound, pairs_view}
use Rattle.haya_selectors.specs.Calls.{all_calls, calls, first_calls, first_calls_on}
use Rattle.haya_selectors.specs.Holds.{holds, some_holds, first_candidates, table_of}
use Rattle.haya_selectors.specs.Places.{items_up_to}
use Rattle.haya_selectors.specs.Compiled.{above}
use Rattle.haya_selectors.specs.Nodes.{chain_at, members_at, slot_names, syntax_at}
use Rattle.haya_selectors.specs.Tries.{all_found, all_held, all_joined, all_lengths, all_tried, each_holds, joined, lengths, tried}
use Rattle.haya_selectors.proofs.Walks.{to_find, to_sum}
use Rattle.haya_selectors.proofs.evaluate.+evaluate.Given as goal

-- a call goes to a node of a smaller number, or on the same node to its form, or from a list to its
-- entries
abbrev pub decreases-form_holds_at : goal.decreases-form_holds_at
decreases-form_holds_at l = 8 * l.number + 1

abbrev pub decreases-whole_holds_at : goal.decreases-whole_holds_at
decreases-whole_holds_at l = 8 * l.number + 2

abbrev pub decreases-holds_at : goal.decreases-holds_at
decreases-holds_at l = 8 * l.number + 3

abbrev pub decreases-tried_at : goal.decreases-tried_at
decreases-tried_at l = 8 * l.number + 3

abbrev pub decreases-negated_holds_at : goal.decreases-negated_holds_at
decreases-negated_holds_at l = 8 * l.number + 4

abbrev pub decreases-chain_holds_at : goal.decreases-chain_holds_at
decreases-chain_holds_at l = 8 * max (suc l.first) (above l.others.now)

abbrev pub decreases-holds_above : goal.decreases-holds_above
decreases-holds_above l = 8 * l.number + 7

abbrev pub decreases-negated_on : goal.decreases-negated_on
decreases-negated_on l = 8 * l.number + 7

abbrev pub decreases-named_holds_at : goal.decreases-named_holds_at
decreases-named_holds_at l = 8 * l.number + 4

abbrev pub decreases-named_on : goal.decreases-named_on
decreases-named_on l = 8 * l.number + 7

abbrev pub decreases-try_at_each : goal.decreases-try_at_each
decreases-try_at_each l = 8 * l.number + 4

abbrev pub decreases-first_alone : goal.decreases-first_alone
decreases-first_alone l = 8 * l.number + 4

abbrev pub decreases-form_candidates_on : goal.decreases-form_candidates_on
decreases-form_candidates_on l = 8 * l.number + 5

abbrev pub decreases-candidates_on : goal.decreases-candidates_on
decreases-candidates_on l = 8 * l.number + 6

abbrev pub decreases-any_holds : goal.decreases-any_holds
decreases-any_holds l = 8 * above l.members.now

abbrev pub decreases-first_candidates_on : goal.decreases-first_candidates_on
decreases-first_candidates_on l = 8 * above l.members.now

abbrev pub decreases-each_takes_one : goal.decreases-each_takes_one
decreases-each_takes_one l = 8 * above l.members.now

-- what the members that are left say is what all say
abbrev pub invariant-any_holds-loop-member : goal.invariant-any_holds-loop-member
invariant-any_holds-loop-member l =
    let all = members_at l.nodes l.members in
    let rest = members_at l.nodes (drop l.member-index l.members) in
    let x = view l.asked in
    (some_holds rest x ≡ some_holds all x)
    × (l.steps + first_calls rest x ≡ l.fn.steps + first_calls all x)
    × (first_binds rest x ≡ first_binds all x)
    × (pairs_view (slot_names l.nodes) l.found ≡ pairs_view (slot_names l.nodes) l.fn.found)

abbrev pub invariant-first_candidates_on-loop-member : goal.invariant-first_candidates_on-loop-member
invariant-first_candidates_on-loop-member l =
    let all = members_at l.nodes l.members in
    let rest = members_at l.nodes (drop l.member-index l.members) in
    let xs = map view l.parents in
    (first_candidates rest xs ≡ first_candidates all xs)
    × (l.steps + first_calls_on rest xs ≡ l.fn.steps + first_calls_on all xs)
    × (first_binds_on rest xs ≡ first_binds_on all xs)
    × (pairs_view (slot_names l.nodes) l.found ≡ pairs_view (slot_names l.nodes) l.fn.found)

-- what the chain so far says
abbrev pub invariant-chain_holds_at-others : goal.invariant-chain_holds_at-others
invariant-chain_holds_at-others l =
    let so_far = chain_at l.nodes l.first (take l.other-index l.others) in
    let x = view l.asked in
    (l.holds ≡ holds so_far x)
    × (l.steps ≡ l.fn.steps + calls so_far x)
    × KeepsFound l.nodes l.fn.found l.found
    × OnTrue l.holds (AddsAt (slot_names l.nodes) x l.fn.found l.found (binds so_far x))

-- what the tries of the members so far have found, with what those of the others find, is what all
-- find
abbrev pub invariant-each_takes_one-loop-member : goal.invariant-each_takes_one-loop-member
invariant-each_takes_one-loop-member l =
    let all = members_at l.nodes l.members in
    let rest = members_at l.nodes (drop l.member-index l.members) in
    let xs = map view l.parents in
    (all_held l.tries ++ joined (table_of rest xs) ≡ joined (table_of all xs))
    × (all_found l.tries ++ joined (all_lengths (all_tried rest xs)) ≡ joined (all_lengths (all_tried all xs)))
    × (pairs_view (slot_names l.nodes) l.found ++ all_joined (all_tried rest xs) ≡ pairs_view (slot_names l.nodes) l.fn.found ++ all_joined (all_tried all xs))
    × (l.steps + all_calls rest xs ≡ l.fn.steps + all_calls all xs)
    × ((l.each_holds && each_holds (table_of rest xs)) ≡ each_holds (table_of all xs))

-- the same of the parents of one row
abbrev pub invariant-try_at_each-loop-parent : goal.invariant-try_at_each-loop-parent
invariant-try_at_each-loop-parent l =
    let s = syntax_at l.nodes l.number in
    let all = map view l.parents in
    let rest = drop l.parent-index all in
    (all_held l.tries ++ map (holds s) rest ≡ all_held l.fn.tries ++ map (holds s) all)
    × (all_found l.tries ++ lengths (map (tried s) rest) ≡ all_found l.fn.tries ++ lengths (map (tried s) all))
    × (pairs_view (slot_names l.nodes) l.found ++ joined (map (tried s) rest) ≡ pairs_view (slot_names l.nodes) l.fn.found ++ joined (map (tried s) all))
    × (l.steps + sum_by (calls s) rest ≡ l.fn.steps + sum_by (calls s) all)
    × ((l.somewhere || list_any (holds s) rest) ≡ list_any (holds s) all)

-- the places that are left
abbrev pub invariant-first_alone-loop-place : goal.invariant-first_alone-loop-place
invariant-first_alone-loop-place l =
    let s = syntax_at l.nodes l.number in
    let xs = map view l.parents in
    (to_find (holds s) (calls s) l.parents l.place ≡ position (holds s) xs)
    × (l.steps + to_sum (holds s) (calls s) l.parents l.place ≡ l.fn.steps + sum_by (calls s) (items_up_to (holds s) xs))
    × (pairs_view (slot_names l.nodes) l.found ≡ pairs_view (slot_names l.nodes) l.fn.found)
