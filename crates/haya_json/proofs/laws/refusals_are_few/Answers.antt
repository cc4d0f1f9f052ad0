use Rattle.haya_json.proofs.MembersTold.{library_refused}
use Rattle.haya_json.proofs.laws.refusals_are_few.Goals as goal

pub returns : goal.returns
returns c = library_refused
