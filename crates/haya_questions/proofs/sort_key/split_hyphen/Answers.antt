use Rattle.std.proofs.Common.{ap}
use Rattle.haya_questions.proofs.SortWords.{sort_words-bare}
use Rattle.haya_questions.proofs.sort_key.split_hyphen.Goals as goal

pub returns-in-None-clause-direction : goal.returns-in-None-clause-direction
returns-in-None-clause-direction c = ap (λ p. p.0) (sort_words-bare c.args.text.now c.in-None.ensures.cases)

pub returns-in-None-clause-word : goal.returns-in-None-clause-word
returns-in-None-clause-word c = ap (λ p. p.1) (sort_words-bare c.args.text.now c.in-None.ensures.cases)
