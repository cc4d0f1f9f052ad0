use Rattle.std.proofs.Common.{refl, subst, rules, vec_len, ◌-◌}
use Rattle.std.specs.Prelude.{IfErr}
use Rattle.std.proofs.lemmas.Result.{on_ok_weaker}
use Rattle.hayagriva.specs.Tree.{fields, new_entry}
use Rattle.haya_lines.specs.Line.{fields_read}
use Rattle.haya_lines.specs.LineReading.{IsFaultOf}
use Rattle.haya_line_library.proofs.Chains.{opened, opened-view}
use Rattle.haya_line_library.proofs.open_entries.open_entry.Goals as goal

pub returns-in-Some-clause-opened : goal.returns-in-Some-clause-opened
returns-in-Some-clause-opened c =
    let t = new_entry c.args.head.key.now c.args.head.kind in
    on_ok_weaker c.read_fields.result (λ h. opened c.args.chain.now.items c.push_new.new.chain.items (vec_len c.push_new.new.chain - 1) c.in-Some.entry.now t c.in_ok-push_new.ensures.ok (search rules)
    c.in-Some.ensures.value c.read_fields.new.entry (λ f. fields_read f c.args.items) (λ f. refl) h) c.read_fields.ensures.ok

pub returns-in-Some-clause-fault : goal.returns-in-Some-clause-fault
returns-in-Some-clause-fault c =
    let t = new_entry c.args.head.key.now c.args.head.kind in
    subst (λ u. IfErr c.read_fields.result (IsFaultOf (fields_read (fields u) c.args.items)))
    (opened-view c.args.chain.now.items c.push_new.new.chain.items (vec_len c.push_new.new.chain - 1) c.in-Some.entry.now t c.in_ok-push_new.ensures.ok (search rules) c.in-Some.ensures.value)
    c.read_fields.ensures.fault
