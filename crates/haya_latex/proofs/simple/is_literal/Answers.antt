use Rattle.std.proofs.Common.{arith, ◌∙◌}
use Rattle.std.proofs.lemmas.List.{at_drop_all}
use Rattle.haya_latex.proofs.LiteralTexts.{is_literal, literal_bytes, literal_some, literal_unknown}
use Rattle.haya_latex.proofs.simple.is_literal.Goals as goal

pub returns-clause-bytes : goal.returns-clause-bytes
returns-clause-bytes c = λ h.
    let end = at_drop_all (is_literal c.bytes.blank c.bytes.hyphen) c.args.text.now c.bytes.byte-index (omega arith) in
    literal_bytes c.args.text.now (c.bytes.invariant ∙ (end ∙ h))

pub returns-clause-some : goal.returns-clause-some
returns-clause-some c = λ h.
    let end = at_drop_all (is_literal c.bytes.blank c.bytes.hyphen) c.args.text.now c.bytes.byte-index (omega arith) in
    literal_some c.args.text.now (c.bytes.invariant ∙ (end ∙ h))

pub returns-clause-unknown : goal.returns-clause-unknown
returns-clause-unknown c = λ h.
    let end = at_drop_all (is_literal c.bytes.blank c.bytes.hyphen) c.args.text.now c.bytes.byte-index (omega arith) in
    literal_unknown c.args.text.now (c.bytes.invariant ∙ (end ∙ h))
