use Rattle.std.proofs.Common.{◌<◌, ◌-◌, length}
use Rattle.haya_characters.proofs.lists.first_block.Given as goal

abbrev pub invariant-lens : goal.invariant-lens
invariant-lens l = 0 < l.len

abbrev pub decreases-lens : goal.decreases-lens
decreases-lens l = length l.text - l.len
