use Rattle.haya_json.proofs.ReadBacks.{one_library}
use Rattle.haya_json.proofs.laws.one_library.Goals as goal

pub returns : goal.returns
returns c = one_library
