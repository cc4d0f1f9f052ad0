use Rattle.std.proofs.Common.{◌∙◌, sym}
use Rattle.haya_bibtex_text.proofs.Distinct.{comes_later, comes_now}
use Rattle.haya_bibtex_text.proofs.kept.has_name.Goals as goal

pub returns-then-eq : goal.returns-then-eq
returns-then-eq c =
    comes_now c.args.fields.now c.fields.field-index c.field-item.result c.args.name.now _ c.utf8.name c.fields-test.true c.field-item.is
    c.fields.invariant (sym (rw c.as_str.ensures.value at c.eq.ensures) ∙ c.if-eq.true)

pub fields-preserved : goal.fields-preserved
fields-preserved c =
    comes_later c.args.fields.now c.fields.field-index c.field-item.result c.args.name.now _ c.utf8.name c.fields-test.true c.field-item.is
    c.fields.invariant (sym (rw c.as_str.ensures.value at c.eq.ensures) ∙ c.if-eq.false)
