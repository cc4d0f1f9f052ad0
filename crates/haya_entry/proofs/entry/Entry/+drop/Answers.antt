use Rattle.std.proofs.Common.{◌<◌, ◌≤◌, length, rules, arith}
use denote.Param.Weighed.{most, at_most}
use Rattle.haya_entry.specs.declared.entry.Entry.TheViews.{size_is-Entry}
use Rattle.haya_entry.proofs.Depths.{most_swap_remove}
use Rattle.haya_entry.proofs.entry.Entry.TheLaws.{the_size}
use Rattle.haya_entry.proofs.entry.Entry.+drop.Goals as goal

pub parents-init : goal.parents-init
parents-init t c =
    rw c.into_parents-parents.ensures (omega (arith, size_is-Entry c.args.self))

-- what is left of the parents is less deep
pub drop-parents-requires : goal.drop-parents-requires
drop-parents-requires t c κs =
    let items = c.parents.parents.items in
    let some : 0 < length items = search rules in
    let fewer = most_swap_remove the_size items 0 c.swap_remove-first.result some in
    let left : most the_size c.swap_remove-first.new.self.items < t =
    rw c.swap_remove-first.ensures.items (omega (arith, fewer, c.parents.invariant)) in
    search rules

-- and so are the parents of the first
pub parents-preserved : goal.parents-preserved
parents-preserved t c =
    let items = c.parents.parents.items in
    let first = c.swap_remove-first.result in
    let some : 0 < length items = search rules in
    let in_reach : the_size first ≤ most the_size items =
    rw c.swap_remove-first.ensures.value (at_most the_size items 0 first some) in
    rw c.into_parents-parents-in-parents.ensures
    (omega (arith, in_reach, size_is-Entry first, c.parents.invariant))

pub drop-parents-requires-2 : goal.drop-parents-requires-2
drop-parents-requires-2 t c κs =
    let left : most the_size c.parents.parents.items < t = omega (arith, c.parents.invariant) in
    search rules
