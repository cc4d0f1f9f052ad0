use Rattle.std.proofs.Common.{rules, ◌≡◌, suc, sym, ap, ◌∙◌}
use Rattle.haya_selectors.specs.Nodes.{syntax_at}
use Rattle.haya_selectors.specs.Syntax.{Neg}
use Rattle.haya_selectors.proofs.Chains.{negations-more}
use Rattle.haya_selectors.proofs.nodes.Nodes.negation.Goals as goal

pub returns-in_ok-others-in-Neg-clause-stands : goal.returns-in_ok-others-in-Neg-clause-stands
returns-in_ok-others-in-Neg-clause-stands c =
    let stands = rw c.in-Neg.is at c.at.ensures.stands in
    let more : c.in_ok-others-in-Neg.others ≡ suc c.in-Neg.others = search rules in
    rw more (ap Neg (stands ∙ sym (negations-more c.in-Neg.others (syntax_at c.args.self.now c.in-Neg.innermost))))
