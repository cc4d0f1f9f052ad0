use Rattle.std.proofs.Common.{◌≡◌, ◌+◌, ◌<◌, ◌^◌, [], length, string_bytes}
use denote.Text.{Utf8}
use denote.Shadow.{shadow}
use Rattle.haya_yaml_text.specs.Scalars.{behind, scalar, scalar_of}
use Rattle.haya_yaml_text.specs.Turns.{feeds}
use Rattle.haya_yaml_text.proofs.scalar.read_scalar.Given as goal

abbrev pub invariant-turns : goal.invariant-turns
invariant-turns l =
    shadow (Utf8 l.rest) × (feeds l.fold + length l.rest < 2 ^ 64)
    × (behind (string_bytes l.out) (scalar l.lines l.style 0 l.fold [] l.rest) ≡ behind (string_bytes l.initial.out) (scalar_of l.lines l.style l.text))

abbrev pub decreases-turns : goal.decreases-turns
decreases-turns l = length l.rest
