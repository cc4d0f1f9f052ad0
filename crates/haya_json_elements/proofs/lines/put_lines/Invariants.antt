use Rattle.std.proofs.Common.{◌-◌, length}
use Rattle.haya_json_elements.proofs.InPlace.{AreInPlace}
use Rattle.haya_json_elements.proofs.lines.put_lines.Given as goal

abbrev pub invariant-bytes : goal.invariant-bytes
invariant-bytes l =
    AreInPlace l.brackets l.fn.place l.initial.bytes l.place l.at l.bytes

abbrev pub decreases-bytes : goal.decreases-bytes
decreases-bytes l = length l.bytes - l.at
