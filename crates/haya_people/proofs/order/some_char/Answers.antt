use Rattle.std.proofs.Common.{rules, true, false}
use Rattle.std.proofs.lemmas.Iterator.{cases_from_any, YieldsList-from_chars}
use Rattle.haya_people.proofs.order.some_char.Goals as goal

pub returns : goal.returns
returns g c =
    cases_from_any _ _ _ (λ x. g.P.Fn.post c.args.pred.now (x, tt) true) (λ x. g.P.Fn.post c.args.pred.now (x, tt) false)
    c.any.ensures.ran (YieldsList-from_chars c.args.text.now c.utf8.text c.chars.ensures.rest)
    (λ x q k. search rules) (λ x q k. search rules)
