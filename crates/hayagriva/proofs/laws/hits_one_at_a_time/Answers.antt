use Rattle.hayagriva.proofs.QueryRuns.{begins_answer, ends_answer, stays_ended}
use Rattle.hayagriva.proofs.laws.hits_one_at_a_time.Goals as goal

pub returns-clause-begins : goal.returns-clause-begins
returns-clause-begins c = begins_answer

pub returns-clause-ends : goal.returns-clause-ends
returns-clause-ends c = ends_answer

pub returns-clause-stays : goal.returns-clause-stays
returns-clause-stays c = stays_ended
