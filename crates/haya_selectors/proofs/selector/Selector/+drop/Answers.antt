use Rattle.std.proofs.Common.{◌<◌, length, rules, arith, ap}
use denote.Param.Weighed.{most}
use Rattle.haya_selectors.specs.declared.selector.Selector.TheViews.{sized-Alt, sized-Multi}
use Rattle.haya_entry.proofs.Depths.{most_swap_remove}
use Rattle.haya_selectors.proofs.selector.Selector.TheLaws.{the_size}
use Rattle.haya_selectors.proofs.selector.Selector.+drop.Goals as goal

-- what is left of the members is less deep
pub drop-members-requires-in-Alt : goal.drop-members-requires-in-Alt
drop-members-requires-in-Alt t c κs =
    let items = c.in-Alt.members.items in
    let some : 0 < length items = search rules in
    let fewer = most_swap_remove the_size items 0 c.swap_remove-self.result some in
    let whole = ap the_size c.in-Alt.is in
    let left : most the_size c.swap_remove-self.new.self.items < t =
    rw c.swap_remove-self.ensures.items (omega (arith, sized-Alt c.in-Alt.members)) in
    search rules

pub drop-members-requires-in-Multi : goal.drop-members-requires-in-Multi
drop-members-requires-in-Multi t c κs =
    let items = c.in-Multi.members.items in
    let some : 0 < length items = search rules in
    let fewer = most_swap_remove the_size items 0 c.swap_remove-self-in-Multi.result some in
    let whole = ap the_size c.in-Multi.is in
    let left : most the_size c.swap_remove-self-in-Multi.new.self.items < t =
    rw c.swap_remove-self-in-Multi.ensures.items (omega (arith, sized-Multi c.in-Multi.members)) in
    search rules
