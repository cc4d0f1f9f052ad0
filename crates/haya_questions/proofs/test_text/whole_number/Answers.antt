use Rattle.std.proofs.Common.{◌∙◌}
use Rattle.haya_questions.proofs.Wholes.{parsed_whole}
use Rattle.haya_questions.proofs.test_text.whole_number.Goals as goal

pub returns : goal.returns
returns c = c.ok.ensures.value ∙ parsed_whole c.args.text.now c.parse.result c.parse.ensures.value.0
