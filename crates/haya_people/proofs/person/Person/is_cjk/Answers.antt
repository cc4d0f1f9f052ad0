use Rattle.haya_people.proofs.Styles.{answer-by_test}
use Rattle.haya_people.proofs.person.Person.is_cjk.Goals as goal

pub returns-clause-tested : goal.returns-clause-tested
returns-clause-tested g c test alike = answer-by_test (λ x b. g.P.Fn.post c.args.pred (x, tt) b) test alike _ _ c.is_cjk.ensures
