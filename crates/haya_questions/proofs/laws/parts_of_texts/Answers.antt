use Rattle.haya_questions.proofs.Parts.{has_part-says}
use Rattle.haya_questions.proofs.laws.parts_of_texts.Goals as goal

pub returns : goal.returns
returns c = has_part-says
