use Rattle.haya_bibtex_slices.proofs.InOrder.{cut_twice}
use Rattle.haya_bibtex_slices.proofs.slices.cut.Goals as goal

pub returns-clause-parts : goal.returns-clause-parts
returns-clause-parts c =
    cut_twice c.args.text.now c.in_ok-more.more.now c.in_ok-part.part.now c.in_ok-part.behind.now _ _
    c.in_ok-more.ensures.back c.in_ok-part.ensures.front c.in_ok-part.ensures.back
