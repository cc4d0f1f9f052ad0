use Rattle.std.proofs.Common.{◌≡◌, length, true, sym, ap, ◌∙◌, arith}
use Rattle.haya_yaml_text.specs.Scalars.{may_end}
use Rattle.haya_yaml_text.specs.Turns.{plain_length}
use Rattle.haya_yaml_text.proofs.Steps.{alone}
use Rattle.haya_yaml_text.proofs.scalar.is_alone.Goals as goal

pub returns-then-may_end : goal.returns-then-may_end
returns-then-may_end c same =
    let text = c.args.text.now in
    let ends : may_end c.args.style ≡ true = sym c.may_end.ensures ∙ c.if-may_end.true in
    let counted : c.plain_length.result ≡ length text = grind (arith, same) in
    let all : plain_length c.args.style text ≡ length text = ap (plain_length c.args.style) (sym c.as_bytes.ensures.value) ∙ sym c.plain_length.ensures.is ∙ counted in
    alone true c.args.style text ends all
