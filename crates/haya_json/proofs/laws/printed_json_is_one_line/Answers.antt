use Rattle.haya_json.proofs.OneLine.{printed_json}
use Rattle.haya_json.proofs.laws.printed_json_is_one_line.Goals as goal

pub returns : goal.returns
returns c = printed_json
