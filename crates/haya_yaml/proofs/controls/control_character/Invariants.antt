use Rattle.std.proofs.Common.{◌≡◌, length}
use Rattle.haya_yaml.specs.Documents.{is_printable}
use Rattle.haya_yaml.proofs.controls.control_character.Given as goal

abbrev pub invariant-bytes : goal.invariant-bytes
invariant-bytes l = is_printable l.rest ≡ is_printable l.text

abbrev pub decreases-bytes : goal.decreases-bytes
decreases-bytes l = length l.rest
