use Rattle.std.proofs.Common.{◌≡◌, Some, subst, arith, rules}
use Rattle.json.specs.Value.{value_view}
use Rattle.haya_csl.specs.Made.{IsMadeOf}
use Rattle.haya_csl.specs.Turns.{items_left, first_and_left}
use Rattle.haya_csl.proofs.MadeLemmas.{none_taken, one_more_taken}
use Rattle.haya_csl.proofs.turns.Made.take_items.Goals as goal

pub items-init : goal.items-init
items-init c = none_taken c.args.by _ _ c.requires

pub items-preserved : goal.items-preserved
items-preserved c =
    let l = c.items in
    let j = value_view c.in-Ok-Some.item in
    let next : items_left l.reader ≡ first_and_left (Some j) c.next_item.new.reader = grind arith in
    let was : IsMadeOf c.args.by (first_and_left (Some j) c.next_item.new.reader) (items_left c.args.reader.now) l.place l.self = subst (λ r. IsMadeOf c.args.by r (items_left c.args.reader.now) l.place l.self) next l.invariant in
    one_more_taken c.args.by _ (items_left c.next_item.new.reader) j l.place l.self c.take-taken.new.self (search rules) was
