use denote.Shadow.{shadow}
use denote.Text.{Utf8}
use Rattle.std.proofs.Common.{length, map}
use Rattle.haya_yaml_slices.proofs.Places.{IsDividedUpTo}
use Rattle.haya_yaml_slices.proofs.dividing.divided.Given as goal

abbrev pub invariant-members : goal.invariant-members
invariant-members l = shadow (Utf8 l.rest) × IsDividedUpTo l.fn.text (map (λ s. s.now) l.parts.items) l.rest

abbrev pub decreases-members : goal.decreases-members
decreases-members l = length l.rest
