use Rattle.std.proofs.Common.{◌≡◌, is_some, map, take, sym, ◌∙◌, arith}
use Rattle.std.proofs.lemmas.List.Elements.{All-push}
use Rattle.haya_numbers.specs.Pages.{part_start, part_view, HasTwoEnds}
use Rattle.haya_numbers.proofs.PartLemmas.{is_some-start, length-starts_more, parts_more}
use Rattle.haya_numbers.proofs.page.PageRanges.is_plural.Goals as goal
use Rattle.haya_numbers.proofs.page.PageRanges.is_plural.Goals.{then-is_some, else-is_some}

pub loop-part-preserved : goal.loop-part-preserved
loop-part-preserved c =
    let same : is_some (part_start (part_view c.part-item.result)) ≡ c.is_some.result = is_some-start _ _ _ c.start.ensures ∙ sym c.is_some.ensures in
    let more = length-starts_more c.deref-part-items.result.now c.loop-part.part-index c.part-item.result c.loop-part-test.true c.part-item.is in
    record {
      single = rw (parts_more c.deref-part-items.result.now c.loop-part.part-index c.part-item.result c.loop-part-test.true c.part-item.is)
          (All-push (λ p. HasTwoEnds p → ⊥) (map part_view (take c.loop-part.part-index c.deref-part-items.result.now)) (part_view c.part-item.result) c.loop-part.invariant.single (λ h. let t = c.has_two_ends.ensures.1 h in cc));
      starts = elim c.if-is_some.branch [
        | then-is_some w ↦ (let e = rw (same ∙ w.if-is_some.true) at more in omega (arith, w.saturating_add-count.ensures, w.count-is))
        | else-is_some w ↦ (let e = rw (same ∙ w.if-is_some.false) at more in omega (arith, w.count-is))
      ];
    }
