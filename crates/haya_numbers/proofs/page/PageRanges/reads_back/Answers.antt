use Rattle.std.proofs.Common.{◌≡◌, true, false, map, sym, ◌∙◌}
use Rattle.haya_numbers.specs.Pages.{part_view}
use Rattle.haya_numbers.specs.PagesBack.{fits}
use Rattle.haya_numbers.proofs.ReadsBack.{goes_on-end, goes_on-more, goes_on-readable}
use Rattle.haya_numbers.proofs.page.PageRanges.reads_back.Goals as goal

pub loop-part-init : goal.loop-part-init
loop-part-init c = goes_on-readable (map part_view c.deref-part-items.result.now)

pub returns-then-not-fits : goal.returns-then-not-fits
returns-then-not-fits c =
    let other : fits c.loop-part.wants_page (part_view c.part-item.result) ≡ false = sym c.fits.ensures ∙ c.if-not-fits.true in
    let more = goes_on-more c.loop-part.wants_page c.deref-part-items.result.now c.loop-part.part-index c.part-item.result c.loop-part-test.true c.part-item.is in
    rw (← c.deref-part-items.ensures.value) (sym (rw other at more) ∙ c.loop-part.invariant)

pub loop-part-preserved : goal.loop-part-preserved
loop-part-preserved c =
    let same : fits c.loop-part.wants_page (part_view c.part-item.result) ≡ true = sym c.fits.ensures ∙ c.if-not-fits.false in
    let more = goes_on-more c.loop-part.wants_page c.deref-part-items.result.now c.loop-part.part-index c.part-item.result c.loop-part-test.true c.part-item.is in
    sym (rw same at more) ∙ c.loop-part.invariant

pub returns : goal.returns
returns c = rw (← c.deref-part-items.ensures.value) (sym (goes_on-end c.loop-part.wants_page c.deref-part-items.result.now c.loop-part.part-index c.loop-part-test.false) ∙ c.loop-part.invariant)
