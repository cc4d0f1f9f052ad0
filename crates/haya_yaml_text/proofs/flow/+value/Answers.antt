use Rattle.std.proofs.Common.{◌≡◌, ◌+◌, ◌-◌, ◌<◌, ◌==◌, length, get_or, Some, Err, true, false, sym, ap, ◌∙◌, arith, rules}
use Rattle.json.specs.Json.{Items, Members}
use Rattle.haya_yaml_text.specs.Flow.{Reading, flow_items, flow_members, flow_value, items_step, members_step, one_member}
use Rattle.haya_yaml_text.specs.FlowTurns.{MemberEnded, MemberTurned}
use Rattle.haya_yaml_text.specs.Keys.{key_scalar}
use Rattle.haya_yaml_text.specs.Writing.{written_items, written_members}
use Rattle.haya_yaml_text.specs.declared.fault.ReadError.TheVariants.{Refused}
use Rattle.haya_yaml_text.proofs.FlowSteps.{flow_is, if_ok, items_next, member_ended, member_refused, members_next, no_items_left, no_items_written, no_members_left, no_members_written, step_refused}
use Rattle.haya_yaml_text.proofs.flow.+value.Goals as goal

pub write_flow-returns-clause-ok : goal.write_flow-returns-clause-ok
write_flow-returns-clause-ok t c = rw (flow_is c.args.depth c.args.text.now) c.write_at.ensures.ok

pub write_flow-returns-clause-refused : goal.write_flow-returns-clause-refused
write_flow-returns-clause-refused t c f e = flow_is c.args.depth c.args.text.now ∙ c.write_at.ensures.refused f e

pub write_items-turns-preserved : goal.write_items-turns-preserved
write_items-turns-preserved t c =
    let v = flow_value c.args.depth in
    let n = c.turns.turns - 1 in
    let old = c.turns.out.writer.tokens in
    let new = c.write_item.new.out.writer.tokens in
    let step : (more : Reading Items) → written_items old (items_step v more c.pass.result.now) ≡ written_items new (more c.in-More.more.now) = rw c.in-More.is at c.in_ok-more.ensures.ok in
    let next : c.turns.turns ≡ n + 1 = omega arith in (
      search rules,
      search rules,
      sym (step (flow_items v n)) ∙ ap (λ text. written_items old (items_step v (flow_items v n) text)) c.pass.ensures
          ∙ ap (written_items old) (sym (items_next v c.turns.turns n c.turns.rest.now next)) ∙ c.turns.invariant.2,
    )

pub write_items-returns-in-Last-clause-ok : goal.write_items-returns-in-Last-clause-ok
write_items-returns-in-Last-clause-ok t c =
    let v = flow_value c.args.depth in
    let n = c.turns.turns - 1 in
    let old = c.turns.out.writer.tokens in
    let new = c.write_item.new.out.writer.tokens in
    let step : (more : Reading Items) → written_items old (items_step v more c.pass.result.now) ≡ Some (new, c.in-Last.more.now) = rw c.in-Last.is at c.in_ok-more.ensures.ok in
    let next : c.turns.turns ≡ n + 1 = omega arith in
    sym c.turns.invariant.2 ∙ ap (written_items old) (items_next v c.turns.turns n c.turns.rest.now next)
    ∙ ap (λ text. written_items old (items_step v (flow_items v n) text)) (sym c.pass.ensures) ∙ step (flow_items v n)

pub write_items-returns-in_err-more-clause-refused : goal.write_items-returns-in_err-more-clause-refused
write_items-returns-in_err-more-clause-refused t c f e =
    let v = flow_value c.args.depth in
    let n = c.turns.turns - 1 in
    let old = c.turns.out.writer.tokens in
    let was : c.write_item.result ≡ Err (Refused f) = grind (arith, e) in
    let next : c.turns.turns ≡ n + 1 = omega arith in
    no_items_written c.args.out.now.writer.tokens _ (
    sym c.turns.invariant.2 ∙ ap (written_items old) (items_next v c.turns.turns n c.turns.rest.now next
    ∙ ap (λ text. items_step v (flow_items v n) text) (sym c.pass.ensures) ∙ c.write_item.ensures.refused f was (flow_items v n))
    )

pub write_items-returns-clause-refused : goal.write_items-returns-clause-refused
write_items-returns-clause-refused t c f e =
    let none : c.turns.turns ≡ 0 = omega arith in
    no_items_written c.args.out.now.writer.tokens _ (
    sym c.turns.invariant.2 ∙ ap (written_items c.turns.out.writer.tokens) (no_items_left (flow_value c.args.depth) c.turns.turns c.turns.rest.now none)
    )

pub write_members-turns-preserved : goal.write_members-turns-preserved
write_members-turns-preserved t c =
    let v = flow_value c.args.depth in
    let n = c.turns.turns - 1 in
    let old = c.turns.out.writer.tokens in
    let new = c.write_member.new.out.writer.tokens in
    let step : (more : Reading Members) → written_members old (members_step v more c.pass.result.now) ≡ written_members new (more c.in-More.more.now) = rw c.in-More.is at c.in_ok-more.ensures.ok in
    let next : c.turns.turns ≡ n + 1 = omega arith in (
      search rules,
      search rules,
      sym (step (flow_members v n)) ∙ ap (λ text. written_members old (members_step v (flow_members v n) text)) c.pass.ensures
          ∙ ap (written_members old) (sym (members_next v c.turns.turns n c.turns.rest.now next)) ∙ c.turns.invariant.2,
    )

pub write_members-returns-in-Last-clause-ok : goal.write_members-returns-in-Last-clause-ok
write_members-returns-in-Last-clause-ok t c =
    let v = flow_value c.args.depth in
    let n = c.turns.turns - 1 in
    let old = c.turns.out.writer.tokens in
    let new = c.write_member.new.out.writer.tokens in
    let step : (more : Reading Members) → written_members old (members_step v more c.pass.result.now) ≡ Some (new, c.in-Last.more.now) = rw c.in-Last.is at c.in_ok-more.ensures.ok in
    let next : c.turns.turns ≡ n + 1 = omega arith in
    sym c.turns.invariant.2 ∙ ap (written_members old) (members_next v c.turns.turns n c.turns.rest.now next)
    ∙ ap (λ text. written_members old (members_step v (flow_members v n) text)) (sym c.pass.ensures) ∙ step (flow_members v n)

pub write_members-returns-in_err-more-clause-refused : goal.write_members-returns-in_err-more-clause-refused
write_members-returns-in_err-more-clause-refused t c f e =
    let v = flow_value c.args.depth in
    let n = c.turns.turns - 1 in
    let old = c.turns.out.writer.tokens in
    let was : c.write_member.result ≡ Err (Refused f) = grind (arith, e) in
    let next : c.turns.turns ≡ n + 1 = omega arith in
    no_members_written c.args.out.now.writer.tokens _ (
    sym c.turns.invariant.2 ∙ ap (written_members old) (members_next v c.turns.turns n c.turns.rest.now next
    ∙ ap (λ text. members_step v (flow_members v n) text) (sym c.pass.ensures) ∙ c.write_member.ensures.refused f was (flow_members v n))
    )

pub write_members-returns-clause-refused : goal.write_members-returns-clause-refused
write_members-returns-clause-refused t c f e =
    let none : c.turns.turns ≡ 0 = omega arith in
    no_members_written c.args.out.now.writer.tokens _ (
    sym c.turns.invariant.2 ∙ ap (written_members c.turns.out.writer.tokens) (no_members_left (flow_value c.args.depth) c.turns.turns c.turns.rest.now none)
    )

pub write_member-returns-in_default-clause-refused : goal.write_member-returns-in_default-clause-refused
write_member-returns-in_default-clause-refused t c f e more =
    let some : 0 < length c.args.text.now = grind arith in
    let other : (get_or c.args.text.now 0 0 == 125) ≡ false = grind arith in
    step_refused (flow_value c.args.depth) more c.args.text.now some other (c.write_one_member.ensures.refused f e more)

pub write_one_member-returns-clause-ok : goal.write_one_member-returns-clause-ok
write_one_member-returns-clause-ok t c =
    let v = flow_value c.args.depth in
    if_ok (λ p. MemberEnded p c.write_value_behind.new.out.writer.tokens c.end_member.new.out.writer.tokens c.pass.result.now)
    (λ p. MemberTurned (λ more. one_member v more (key_scalar true c.args.text.now)) p c.args.out.now.writer.tokens c.end_member.new.out.writer.tokens)
    c.end_member.result
    (λ p ended. member_ended v (key_scalar true c.args.text.now) c.args.out.now.writer.tokens c.write_key.new.out.writer.tokens c.write_value_behind.new.out.writer.tokens
    c.end_member.new.out.writer.tokens c.in_ok-rest.rest.now c.skip.result.now c.at_colon-colon.result.1.now c.in_ok-rest-2.rest.now c.pass.result.now c.at_colon-colon.result.0 p
    c.in_ok-rest.ensures.ok c.skip.ensures.rest c.at_colon-colon.ensures c.in_ok-rest-2.ensures.ok c.pass.ensures ended)
    c.end_member.ensures.ok

pub write_one_member-returns-clause-refused : goal.write_one_member-returns-clause-refused
write_one_member-returns-clause-refused t c f e more =
    member_refused (flow_value c.args.depth) (key_scalar true c.args.text.now) c.args.out.now.writer.tokens c.write_key.new.out.writer.tokens c.write_value_behind.new.out.writer.tokens
    c.in_ok-rest.rest.now c.skip.result.now c.at_colon-colon.result.1.now c.in_ok-rest-2.rest.now c.pass.result.now c.at_colon-colon.result.0
    c.in_ok-rest.ensures.ok c.skip.ensures.rest c.at_colon-colon.ensures c.in_ok-rest-2.ensures.ok c.pass.ensures (c.end_member.ensures.refused f e) more
