use Rattle.hayagriva.proofs.Parts.{picked-parts, picked-many, hits-parts}
use Rattle.hayagriva.proofs.laws.answers_in_parts.Goals as goal

pub returns-clause-two : goal.returns-clause-two
returns-clause-two c = picked-parts

pub returns-clause-many : goal.returns-clause-many
returns-clause-many c = picked-many

pub returns-clause-hits : goal.returns-clause-hits
returns-clause-hits c = hits-parts
