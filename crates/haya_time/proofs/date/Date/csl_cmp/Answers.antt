use Rattle.std.proofs.Common.{refl, ◌∙◌}
use Rattle.haya_time.proofs.DateOrders.{then-nested}
use Rattle.haya_time.proofs.date.Date.csl_cmp.Goals as goal

pub returns : goal.returns
returns c =
    (rw (c.then-3.ensures, c.then-2.ensures, c.then.ensures) at c.then-4.ensures)
    ∙ then-nested c.cmp.result c.cmp-2.result c.cmp-3.result c.cmp-4.result c.cmp-5.result
    ∙ rw (c.cmp-5.ensures, c.cmp-4.ensures, c.cmp-3.ensures, c.cmp-2.ensures, c.cmp.ensures, c.approximate_without.ensures, c.approximate_without-2.ensures, c.approximate_without-3.ensures, c.approximate_without-4.ensures) refl
