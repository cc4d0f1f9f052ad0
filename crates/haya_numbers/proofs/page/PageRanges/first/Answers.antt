use Rattle.std.proofs.Common.{◌≡◌, true, false, is_some, sym, ◌∙◌}
use Rattle.haya_numbers.specs.Pages.{part_start, part_view}
use Rattle.haya_numbers.proofs.PartLemmas.{is_some-start, starts_first, starts_none}
use Rattle.haya_numbers.proofs.page.PageRanges.first.Goals as goal

pub returns-then-is_some : goal.returns-then-is_some
returns-then-is_some c =
    let some : is_some (part_start (part_view c.part-item.result)) ≡ true = is_some-start _ _ _ c.start-start.ensures ∙ sym c.is_some.ensures ∙ c.if-is_some.true in
    rw (← c.deref-part-items.ensures.value) (c.start-start.ensures ∙ starts_first c.deref-part-items.result.now c.loop-part.part-index c.part-item.result c.loop-part-test.true c.part-item.is c.loop-part.invariant some)

pub loop-part-preserved : goal.loop-part-preserved
loop-part-preserved c =
    let none : is_some (part_start (part_view c.part-item.result)) ≡ false = is_some-start _ _ _ c.start-start.ensures ∙ sym c.is_some.ensures ∙ c.if-is_some.false in
    starts_none c.deref-part-items.result.now c.loop-part.part-index c.part-item.result c.loop-part-test.true c.part-item.is c.loop-part.invariant none
