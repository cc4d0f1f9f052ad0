use Rattle.haya_json.proofs.ReadBacks.{described}
use Rattle.haya_json.proofs.laws.printed_libraries_read_back.Goals as goal

pub returns : goal.returns
returns c = described
