use Rattle.std.proofs.Common.{◌∙◌}
use Rattle.haya_json.proofs.Wholes.{parsed_whole}
use Rattle.haya_json.proofs.values.numbers.whole_read.Goals as goal

pub returns : goal.returns
returns c = c.ok.ensures.value ∙ parsed_whole c.args.text.now c.parse.result c.parse.ensures.value.0
