use Rattle.hayagriva.proofs.QueryRuns.{hits_in_words, end_in_words}
use Rattle.hayagriva.proofs.laws.hits_in_words.Goals as goal

pub returns-clause-hit : goal.returns-clause-hit
returns-clause-hit c = hits_in_words

pub returns-clause-end : goal.returns-clause-end
returns-clause-end c = end_in_words
