use Rattle.haya_people.specs.Person.{person_view}
use Rattle.haya_people.specs.Tables.{texts}
use Rattle.haya_people.proofs.Styles.{order-by_test}
use Rattle.haya_people.proofs.person.Person.csl_cmp.Goals as goal

pub returns-clause-tested : goal.returns-clause-tested
returns-clause-tested g c test alike =
    order-by_test (λ x b. g.P.Fn.post c.args.pred (x, tt) b) test alike c.args.form c.args.demote_particle (texts c.args.table.now)
    (person_view c.args.self.now) (person_view c.args.other.now) c.is_cjk.result c.is_cjk-2.result c.told_cmp.result
    c.is_cjk.ensures c.is_cjk-2.ensures c.told_cmp.ensures
