use Rattle.haya_bibtex_text.proofs.Keeping.{IsKept-last, IsKept-other, IsKept-start}
use Rattle.haya_bibtex_text.proofs.kept.keep_last.Goals as goal

pub fields-init : goal.fields-init
fields-init c =
    IsKept-start c.args.fields.items c.new-kept.result.items c.new-others.result.items c.no_names-names.result
    c.new-kept.ensures.items c.new-others.ensures.items c.no_names-names.ensures

pub fields-preserved-then-not-is_last : goal.fields-preserved-then-not-is_last
fields-preserved-then-not-is_last c =
    IsKept-other _ _ _ _ _ _ c.fields.names c.add_name.new.names c.in-Some.field _ c.fields.invariant c.in-Some.ensures.items
    (rw c.as_str.ensures.value at c.in_ok-is_last.ensures.added) c.if-not-is_last.true
    (rw c.as_str.ensures.value at c.in_ok-is_last.ensures.names) c.in_ok-push.ensures.items

pub fields-preserved : goal.fields-preserved
fields-preserved c =
    IsKept-last _ _ _ _ _ _ c.fields.names c.add_name.new.names c.in-Some.field _ c.fields.invariant c.in-Some.ensures.items
    (rw c.as_str.ensures.value at c.in_ok-is_last.ensures.added) c.if-not-is_last.false
    (rw c.as_str.ensures.value at c.in_ok-is_last.ensures.names) c.in_ok-push-2.ensures.items
