use Rattle.std.proofs.Common.{◌∙◌}
use Rattle.haya_numbers.specs.Numeric.{numeric_view}
use Rattle.haya_numbers.proofs.Equal.{numeric-tells}
use Rattle.haya_numbers.proofs.RoundTrips.{agree, numbers_same}
use Rattle.haya_numbers.proofs.numeric.round_trip.is_same.Goals as goal

pub returns : goal.returns
returns c =
    c.eq.ensures ∙ agree _ _ (numeric-tells c.args.a.now c.args.b.now) (numbers_same (numeric_view c.args.a.now) (numeric_view c.args.b.now))
