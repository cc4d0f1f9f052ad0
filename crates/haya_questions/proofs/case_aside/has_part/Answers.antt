use Rattle.std.proofs.lemmas.Str.Pattern.{contains_text}
use Rattle.haya_questions.proofs.Parts.{told_part}
use Rattle.haya_questions.proofs.case_aside.has_part.Goals as goal

pub returns : goal.returns
returns c = told_part c.contains.result c.args.part.now c.args.text.now (contains_text c.contains.result c.args.part.now c.args.text.now c.contains.ensures.cases)
