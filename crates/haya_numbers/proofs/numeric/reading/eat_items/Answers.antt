use Rattle.std.proofs.Common.{◌≡◌, ◌++◌, ◌∷◌, [], true, false, sym, ◌∙◌}
use Rattle.std.specs.Option.{is_some}
use Rattle.haya_numbers.proofs.Items.{item-shorter, items-more, items-last, none_from_test, some_from_test}
use Rattle.haya_numbers.proofs.numeric.reading.eat_items.Goals as goal

pub returns-then-is_none-clause-value : goal.returns-then-is_none-clause-value
returns-then-is_none-clause-value c =
    let last : is_some c.in_ok-item.item.1 ≡ false = rw c.if-is_none.true at c.is_none.ensures in
    let h = c.items.invariant in
    let read = items-last c.items.set.items c.in_ok-item.item h.0 _ c.eat_item.new.cursor.rest c.in_ok-item.ensures (none_from_test _ last) h.1 in
    let pushed : c.push.new.self.items ≡ c.items.set.items ++ c.in_ok-item.item ∷ [] = c.in_ok-push.ensures.items in
    rw pushed (sym h.2 ∙ read)

pub items-smaller : goal.items-smaller
items-smaller c = item-shorter _ _ _ c.in_ok-item.ensures

pub items-preserved : goal.items-preserved
items-preserved c =
    let on : is_some c.in_ok-item.item.1 ≡ true = rw c.if-is_none.false at c.is_none.ensures in
    let d = some_from_test _ on in
    let h = c.items.invariant in
    let more = items-more c.items.set.items c.in_ok-item.item d.0 h.0 _ c.eat_item.new.cursor.rest c.in_ok-item.ensures d.1 h.1 in
    let pushed : c.push.new.self.items ≡ c.items.set.items ++ c.in_ok-item.item ∷ [] = c.in_ok-push.ensures.items in
    (more.0, more.1, rw pushed (sym more.2 ∙ h.2))
