use Rattle.haya_csl.proofs.ReadOrTold.{member_read_or_told}
use Rattle.haya_csl.proofs.laws.members_are_read_or_told.Goals as goal

pub returns : goal.returns
returns c by first behind name j key said = member_read_or_told by first behind name j key said
