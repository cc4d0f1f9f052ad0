use Rattle.std.proofs.Common.{◌≡◌, ◌+◌, ◌-◌, ◌<◌, ◌≤◌, ◌⊎◌, ℕ, false, true, drop, get_or, inl, inr, subst, sym, arith, ◌∙◌, ap}
use Rattle.std.proofs.lemmas.Bool.{cases_lt}
use Rattle.std.proofs.lemmas.List.{length-drop}
use Rattle.haya_slices.specs.Sought.{is_sought}
use Rattle.haya_slices.proofs.Bits.{no_sign}
use Rattle.haya_slices.proofs.First.{get_or-drop_at}
use Rattle.haya_slices.proofs.signs.Signs.first.Goals as goal

pub returns-then-is-clause-first : goal.returns-then-is-clause-first
returns-then-is-clause-first c =
    let bytes = c.args.bytes.now in
    let s = c.args.sought in
    let from = c.args.self.now.start in
    let at = c.signs.self.start in
    let after = c.next.new.self.start in
    let next = c.in_ok-next.ensures.next in
    let passed : (k : ℕ) → k < after - 1 - from → is_sought s (get_or bytes (from + k) 0) ≡ false =
    (λ k l. elim (cases_lt (from + k) at) [
      | inl before ↦ c.signs.invariant.none (from + k) (omega arith) before
      | inr here ↦ no_sign s (get_or bytes (from + k) 0) (next.before (from + k) here (omega (arith, next.order, c.signs.invariant.order)))
    ]) in
    let last : from + (after - 1 - from) ≡ after - 1 = omega (arith, next.order, c.signs.invariant.order) in (
      record {
        within = omega (arith, length-drop from bytes, next.within, next.order, c.signs.invariant.order);
        before = λ k l. ap (is_sought s) (get_or-drop_at bytes from k) ∙ passed k l;
        there = ap (is_sought s) (get_or-drop_at bytes from (after - 1 - from) ∙ ap (λ n. get_or bytes n 0) last)
            ∙ sym c.is.ensures ∙ c.if-is.true;
      },
      omega (arith, last, next.order),
    )
