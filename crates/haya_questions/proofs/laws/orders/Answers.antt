use Rattle.haya_questions.proofs.Totals.{hits_total, ranks_total}
use Rattle.haya_questions.proofs.laws.orders.Goals as goal

pub returns-clause-hits : goal.returns-clause-hits
returns-clause-hits c = hits_total

pub returns-clause-values : goal.returns-clause-values
returns-clause-values c = ranks_total
