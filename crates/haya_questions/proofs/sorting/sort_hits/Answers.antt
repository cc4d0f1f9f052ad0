use Rattle.haya_questions.proofs.SortLemmas.{sort_by_none}
use Rattle.haya_questions.proofs.sorting.sort_hits.Goals as goal

pub returns-in-None : goal.returns-in-None
returns-in-None c = sort_by_none c.args.keys.now c.args.hits.items c.in-None.ensures.cases
