use Rattle.std.proofs.Common.{◌≡◌, ◌<◌, ◌≤◌, ◌+◌, ◌*◌, ◌∷◌, map, take, vec_len}
use denote.Param.Weighed.{most}
use Rattle.haya_selectors.specs.declared.selector.Selector.{size-Selector}
use Rattle.haya_selectors.specs.Compiled.{above}
use Rattle.haya_selectors.specs.BoundNames.{all_bound_names, bound_names}
use Rattle.haya_selectors.specs.Nodes.{AddsNames, AreSlots, Keeps, chain_at, node_count, slot_names, syntax_at}
use Rattle.haya_selectors.specs.Side.{AllNoDeeper, NoEnds, wrapped}
use Rattle.haya_selectors.specs.Syntax.{members_of, syntax}
use Rattle.haya_selectors.proofs.nodes.Nodes.+compile.Given as goal

abbrev pub decreases-add : goal.decreases-add
decreases-add l = 3 * size-Selector l.selector.now + 2

abbrev pub decreases-add_over : goal.decreases-add_over
decreases-add_over l = 3 * size-Selector l.selector.now + 1

abbrev pub decreases-add_all : goal.decreases-add_all
decreases-add_all l = 3 * most size-Selector l.members.now + 3

-- the chain so far stands for what is below the forms that are left
abbrev pub invariant-add-up : goal.invariant-add-up
invariant-add-up l =
    Keeps l.fn.self l.self
    × (l.first < node_count l.self)
    × (above l.others.items ≤ node_count l.self)
    × (wrapped l.above.items (chain_at l.self l.first l.others.items) ≡ syntax l.selector)
    × AllNoDeeper (size-Selector l.selector) l.above.items
    × NoEnds l.above.items
    × AddsNames l.fn.self l.self (bound_names (chain_at l.self l.first l.others.items))
    × AreSlots l.slots (slot_names l.self)

abbrev pub decreases-add-up : goal.decreases-add-up
decreases-add-up l = vec_len l.above

-- the numbers so far stand for the members so far
abbrev pub invariant-add_all-rest : goal.invariant-add_all-rest
invariant-add_all-rest l =
    Keeps l.fn.self l.self
    × (above l.numbers.items ≤ node_count l.self)
    × (map (syntax_at l.self) l.numbers.items ≡ syntax_at l.fn.self l.first ∷ map syntax (take l.member-index l.rest))
    × AddsNames l.fn.self l.self (all_bound_names (members_of (take l.member-index l.rest)))
    × AreSlots l.slots (slot_names l.self)
