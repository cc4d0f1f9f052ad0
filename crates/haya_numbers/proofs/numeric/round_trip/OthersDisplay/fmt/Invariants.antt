use Rattle.std.proofs.Common.{flat_map, take}
use Rattle.std.specs.Fmt.{HasWritten, IsPlainFormatter, signed_decimal}
use Rattle.haya_numbers.specs.NumericPrinted.{item_text}
use Rattle.haya_numbers.specs.NumericRoundTrip.{spaced_delimiter}
use Rattle.haya_numbers.proofs.numeric.round_trip.OthersDisplay.fmt.Given as goal

-- the numbers so far are written
abbrev pub invariant-loop-number : goal.invariant-loop-number
invariant-loop-number g l =
    IsPlainFormatter l.initial.f → HasWritten g.W.Write.write_str_gives l.initial.f (flat_map (item_text signed_decimal spaced_delimiter) (take l.number-index l.number-items)) l.f
