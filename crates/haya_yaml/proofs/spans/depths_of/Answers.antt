use Rattle.std.proofs.Common.{map, take_all, ap, ◌∙◌}
use Rattle.haya_yaml.specs.Line.{texts}
use Rattle.haya_yaml.specs.Spans.{are_spans}
use Rattle.haya_yaml.proofs.Depths.{fresh, fresh_spans}
use Rattle.haya_yaml.proofs.spans.depths_of.Goals as goal

pub returns : goal.returns
returns c =
    let lines = c.args.lines.now in
    ap (λ ss. are_spans ss (texts lines)) (c.lines.invariant ∙ ap (λ ls. map fresh (texts ls)) (take_all c.lines.line-index lines c.lines-test.false))
    ∙ fresh_spans (texts lines)
