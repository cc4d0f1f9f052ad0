use Rattle.haya_json.proofs.MembersTold.{member_told}
use Rattle.haya_json.proofs.laws.lost_members_are_told.Goals as goal

pub returns : goal.returns
returns c = member_told
