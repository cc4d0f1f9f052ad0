use Rattle.std.proofs.Common.{◌≡◌, [], suc, length, refl, sym, ap, ◌∙◌, rules, arith}
use Rattle.std.proofs.lemmas.List.{map-append}
use Rattle.std.proofs.lemmas.Result.{err_from_is_err_and}
use Rattle.haya_selectors.specs.Grammar.{Or, And, in_binding, in_next, in_term, no_pair, no_term}
use Rattle.haya_selectors.specs.Parser.{after_signs, in_member}
use Rattle.haya_selectors.proofs.Parsing.{of_part, terms_from, terms_next, leaf_value, factor_at, value_at, binding_at, binding_attributes, run_closed, run_next, pairs_from, pairs_next, run_fails, alt_next, multi_next}
use Rattle.haya_selectors.proofs.parse.+parser.Goals as goal

pub expr-returns-clause-value : goal.expr-returns-clause-value
expr-returns-clause-value t c = c.chain.ensures.value _ c.term-first.ensures.value

pub term-returns-clause-value : goal.term-returns-clause-value
term-returns-clause-value t c = c.runs.ensures.value _ c.binding-first.ensures.value

pub attributes-returns-clause-value : goal.attributes-returns-clause-value
attributes-returns-clause-value t c = c.listed.ensures.value _ c.factor-inner.ensures.value

pub binding-returns-in_default-clause-value : goal.binding-returns-in_default-clause-value
binding-returns-in_default-clause-value t c = binding_attributes _ _ c.in_default.ensures.0 c.in_default.ensures.1 c.attributes.ensures.value

pub binding-returns-clause-value : goal.binding-returns-clause-value
binding-returns-clause-value t c = binding_at _ _ c.in-Some.ensures (c.called.ensures _ _ c.attributes-inner.ensures.value)

pub factor-signs-init : goal.factor-signs-init
factor-signs-init t c =
    (refl, omega arith)

pub factor-signs-preserved : goal.factor-signs-preserved
factor-signs-preserved t c =
    let more : c.in_ok-signs.signs ≡ suc c.signs.signs = search rules in
    (rw more (c.signs.invariant.0 ∙ ap (after_signs c.signs.signs) c.signs-test.ensures), omega (arith, c.signs.invariant.1, ap length c.signs-test.ensures))

pub factor-returns-clause-value : goal.factor-returns-clause-value
factor-returns-clause-value t c =
    let e = c.signs-test.ensures in
    factor_at c.signs.signs _ c.signed.result c.signs.invariant.0 e.1 (c.signed.ensures _ _ (rw e.1 e.0) c.value-inner.ensures.value)

pub value-returns-then-not-eat_sign-clause-value : goal.value-returns-then-not-eat_sign-clause-value
value-returns-then-not-eat_sign-clause-value t c = leaf_value _ c.leaf.result c.if-not-eat_sign.ensures.0 c.if-not-eat_sign.ensures.1 c.leaf.ensures.value

pub value-returns-clause-value : goal.value-returns-clause-value
value-returns-clause-value t c = value_at _ _ c.if-not-eat_sign.ensures (c.closed.ensures.value _ c.expr-inner.ensures.value)

pub chain-returns-in_err-left-clause-value : goal.chain-returns-in_err-left-clause-value
chain-returns-in_err-left-clause-value t c ts g =
    let p = err_from_is_err_and c.from_residual.result c.from_residual.ensures.1 in
    rw (p.1, p.2) (of_part (λ f. in_term) _ (rw c.in_err-left.was at g))

pub chain-chain-init : goal.chain-chain-init
chain-chain-init t c =
    (λ ts g. terms_from (rw c.in_ok-left.was at g), omega arith)

pub chain-returns-in_err-right-clause-value : goal.chain-returns-in_err-right-clause-value
chain-returns-in_err-right-clause-value t c ts g =
    let p = err_from_is_err_and c.from_residual-in_err-right.result c.from_residual-in_err-right.ensures.1 in
    rw (p.1, p.2) (of_part (λ f r. (c.chain.invariant.0 ts g).fails f (rw c.chain-test.ensures (in_next r))) _ c.in_err-right.ensures.value)

pub chain-chain-preserved : goal.chain-chain-preserved
chain-chain-preserved t c = (
  λ ts g. rw c.in_ok-left-2.ensures (terms_next (c.chain.invariant.0 ts g) c.chain-test.ensures c.in_ok-right.ensures.value),
  omega (arith, c.chain.invariant.1, c.in_ok-right.ensures.shorter, ap length c.chain-test.ensures),
)

pub chain-returns-clause-value : goal.chain-returns-clause-value
chain-returns-clause-value t c ts g =
    rw c.chain-test.ensures.1 ((c.chain.invariant.0 ts g).reads _ _ (no_term c.chain-test.ensures.0))

pub run-returns-in_err-member-clause-value : goal.run-returns-in_err-member-clause-value
run-returns-in_err-member-clause-value t c =
    let p = err_from_is_err_and c.from_residual-in_err-member.result c.from_residual-in_err-member.ensures.1 in
    rw (p.1, p.2) (of_part (λ f r. c.members.invariant.fails f (in_member r)) _ c.in_err-member.ensures.value)

pub run-returns-then-not-eat_sign-clause-value : goal.run-returns-then-not-eat_sign-clause-value
run-returns-then-not-eat_sign-clause-value t c =
    rw (c.in_ok-push-2.ensures.items, map-append) (run_closed c.members.invariant c.in_ok-member.ensures.value c.if-not-eat_sign.ensures.0 c.if-not-eat_sign.ensures.1)

pub run-members-preserved : goal.run-members-preserved
run-members-preserved t c =
    rw (c.in_ok-push-2.ensures.items, map-append) (run_next c.members.invariant c.in_ok-member.ensures.value c.in_ok-member.ensures.shorter c.if-not-eat_sign.ensures)

pub runs-returns-in_err-left-clause-value : goal.runs-returns-in_err-left-clause-value
runs-returns-in_err-left-clause-value t c ts g =
    let p = err_from_is_err_and c.from_residual.result c.from_residual.ensures.1 in
    rw (p.1, p.2) (of_part (λ f. in_binding) _ (rw c.in_err-left.was at g))

pub runs-runs-init : goal.runs-runs-init
runs-runs-init t c =
    (λ ts g. pairs_from (rw c.in_ok-left.was at g), omega arith)

pub runs-returns-in_err-run-clause-value : goal.runs-returns-in_err-run-clause-value
runs-returns-in_err-run-clause-value t c ts g =
    let p = err_from_is_err_and c.from_residual-in_err-run.result c.from_residual-in_err-run.ensures.1 in
    rw (p.1, p.2) (of_part (λ f. run_fails Or (c.runs.invariant.0 ts g) c.if-eat_sign.ensures) _ c.in_err-run.ensures.value)

pub runs-runs-preserved-then-eat_sign : goal.runs-runs-preserved-then-eat_sign
runs-runs-preserved-then-eat_sign t c = (
  λ ts g. alt_next c.in_ok-run.field-0 c.in_ok-run.ensures.value.1 (pairs_next Or (c.runs.invariant.0 ts g) c.if-eat_sign.ensures c.in_ok-run.ensures.value.2),
  omega (arith, c.runs.invariant.1, c.in_ok-run.ensures.shorter, ap length c.if-eat_sign.ensures),
)

pub runs-returns-in_err-run-2-clause-value : goal.runs-returns-in_err-run-2-clause-value
runs-returns-in_err-run-2-clause-value t c ts g =
    let p = err_from_is_err_and c.from_residual-in_err-run-2.result c.from_residual-in_err-run-2.ensures.1 in
    rw (p.1, p.2) (of_part (λ f. run_fails And (c.runs.invariant.0 ts g) (sym c.if-eat_sign.ensures.1 ∙ c.if-eat_sign-2.ensures)) _ c.in_err-run-2.ensures.value)

pub runs-runs-preserved : goal.runs-runs-preserved
runs-runs-preserved t c =
    let e = sym c.if-eat_sign.ensures.1 ∙ c.if-eat_sign-2.ensures in (
      λ ts g. multi_next c.in_ok-run-2.field-0 c.in_ok-run-2.ensures.value.1 (pairs_next And (c.runs.invariant.0 ts g) e c.in_ok-run-2.ensures.value.2),
      omega (arith, c.runs.invariant.1, c.in_ok-run-2.ensures.shorter, ap length e),
    )

pub runs-returns-else-eat_sign-2-clause-value : goal.runs-returns-else-eat_sign-2-clause-value
runs-returns-else-eat_sign-2-clause-value t c ts g =
    rw (c.if-eat_sign-2.ensures.1, c.if-eat_sign.ensures.1)
    ((c.runs.invariant.0 ts g).reads [] _ (no_pair c.if-eat_sign.ensures.0 (rw c.if-eat_sign.ensures.1 at c.if-eat_sign-2.ensures.0)))
