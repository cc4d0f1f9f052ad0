use Rattle.std.proofs.Common.{sym, ◌∙◌}
use Rattle.haya_bibtex_names.proofs.Ends.{end_dropped, end_kept}
use Rattle.haya_bibtex_names.specs.Signs.{is_gap}
use Rattle.haya_bibtex_names.proofs.parts.without_gap.Goals as goal

pub chars-preserved : goal.chars-preserved
chars-preserved c =
    (rw c.in-Some.ensures.cases.0 at c.chars.invariant)
    ∙ end_dropped is_gap c.in-Some.front.now c.in-Some.last.now (sym c.is_gap.ensures ∙ c.if-not-is_gap.false)

pub returns-then-not-is_gap : goal.returns-then-not-is_gap
returns-then-not-is_gap c =
    let whole = (rw c.in-Some.ensures.cases.0 at c.chars.invariant) in
    let kept = end_kept is_gap c.in-Some.front.now c.in-Some.last.now (sym c.is_gap.ensures ∙ c.if-not-is_gap.true) in
    sym (whole ∙ (kept ∙ sym c.in-Some.ensures.cases.0))
