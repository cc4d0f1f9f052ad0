use Rattle.std.proofs.Common.{◌∙◌}
use Rattle.haya_numbers.specs.Pages.{parts}
use Rattle.haya_numbers.proofs.Equal.{numeric-tells}
use Rattle.haya_numbers.proofs.PagesEqual.{pages-tell}
use Rattle.haya_numbers.proofs.RoundTrips.{agree, pages_same}
use Rattle.haya_numbers.proofs.page.round_trip.is_same.Goals as goal

pub returns : goal.returns
returns c =
    c.eq.ensures ∙ agree _ _ (pages-tell numeric-tells c.args.a.now c.args.b.now) (pages_same (parts c.args.a.now) (parts c.args.b.now))
