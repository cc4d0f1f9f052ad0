use Rattle.std.proofs.Common.{◌-◌, length}
use Rattle.haya_source.proofs.order.next_part.Given as goal

abbrev pub decreases-entries : goal.decreases-entries
decreases-entries l = length l.parts - l.place
