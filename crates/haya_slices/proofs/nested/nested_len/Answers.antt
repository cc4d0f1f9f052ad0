use Rattle.std.proofs.Common.{◌≡◌, ◌≢◌, ◌+◌, ◌-◌, ◌<◌, ◌≤◌, ◌==◌, ◌⊎◌, ◌++◌, ℕ, List, false, Some, ap, arith, drop, get_or, inl, inr, sym, take, ◌∙◌}
use Rattle.std.proofs.lemmas.Bool.{ne_eqb}
use Rattle.std.proofs.lemmas.List.{drop-drop}
use Rattle.haya_json_elements.specs.Steps.{step}
use Rattle.haya_json_elements.specs.declared.place.Brackets.{Brackets}
use Rattle.haya_json_elements.specs.declared.place.Mode.TheVariants.{Between, Text, Word}
use Rattle.haya_json_elements.specs.declared.place.Place.TheVariants.{Element}
use Rattle.haya_slices.specs.Layout.{inside, within}
use Rattle.haya_slices.specs.Sought.{IsFirst}
use Rattle.haya_slices.specs.declared.signs.Sought.TheVariants.{Turn}
use Rattle.haya_slices.proofs.Depths.{between, bracket_leads, quote_leads}
use Rattle.haya_slices.proofs.First.{get_or-drop_at}
use Rattle.haya_slices.proofs.Scanned.{leads_on}
use Rattle.haya_slices.proofs.nested.nested_len.Goals as goal
use Rattle.haya_slices.proofs.nested.nested_len.Goals.{else-len-gt0-via-then-len-gt0+else-not-may_quote, else-len-gt0-via-else-len-gt0}

-- of bytes that lead to this depth, and of those behind them the first quote or bracket
module _ (bytes : List ℕ) (at d len after : ℕ) (some : 0 < d) (first : IsFirst Turn (drop at bytes) len)
    (behind : after ≡ at + len + 1) where
  abbrev rest : List ℕ
  rest = drop at bytes

  deep : (d == 0) ≡ false
  deep = ne_eqb d 0 (λ e. omega (arith, some, e))

  pub there : get_or bytes (after - 1) 0 ≡ get_or rest len 0
  there = ap (λ n. get_or bytes n 0) (omega (arith, behind)) ∙ sym (get_or-drop_at bytes at len)

  pub before : 0 < len → get_or bytes (after - 2) 0 ≡ get_or rest (len - 1) 0
  before some = ap (λ n. get_or bytes n 0) (omega (arith, behind, some)) ∙ sym (get_or-drop_at bytes at (len - 1))

  -- a bracket leads to another depth
  pub turned : get_or bytes (after - 1) 0 ≢ 34 → (b : Brackets) (next : ℕ)
      → ((ys : List ℕ) → inside b Between 1 (take at bytes ++ ys) ≡ inside b Between d ys)
      → within (step b (Element Word d) (get_or bytes (after - 1) 0)).0 ≡ Some (Between, next)
      → (ys : List ℕ) → inside b Between 1 (take after bytes ++ ys) ≡ inside b Between next ys
  turned bracket b next leads to ys =
      ap (λ n. inside b Between 1 (take n bytes ++ ys)) (omega (arith, behind))
      ∙ leads_on b Between 1 bytes at (len + 1) Between d leads Between next
      (bracket_leads b d rest len deep first Between next (ne_eqb (get_or rest len 0) 34 (λ e. bracket (there ∙ e)))
      (ap (λ x. within (step b (Element Word d) x).0) (sym there) ∙ to)) ys

  -- a string leads on
  pub passed : get_or bytes (after - 1) 0 ≡ 34
      → ((len ≡ 0) ⊎ ((deeper : ℕ) × ((b : Brackets) → within (step b (Element Word d) (get_or rest (len - 1) 0)).0 ≡ Some (Between, deeper))))
      → (b : Brackets) (end : ℕ) → after < end
      → ((ys : List ℕ) → inside b Between 1 (take at bytes ++ ys) ≡ inside b Between d ys)
      → ((ys : List ℕ) → inside b Text d (take (end - after) (drop after bytes) ++ ys) ≡ inside b Between d ys)
      → (ys : List ℕ) → inside b Between 1 (take end bytes ++ ys) ≡ inside b Between d ys
  passed quote front b end more leads closed ys =
      let n = end - after in
      let back : drop (len + 1) rest ≡ drop after bytes =
      drop-drop (len + 1) at bytes ∙ ap (λ k. drop k bytes) (omega (arith, behind)) in
      ap (λ k. inside b Between 1 (take k bytes ++ ys)) (omega (arith, behind, more))
      ∙ leads_on b Between 1 bytes at (len + 1 + n) Between d leads Between d
      (leads_on b Between d rest (len + 1) n Text d
      (quote_leads b d rest len deep first (sym there ∙ quote) (between b d rest len deep first front)) Between d
      (λ zs. ap (λ t. inside b Text d (take n t ++ zs)) back ∙ closed zs)) ys

pub turns-preserved-then-sign-eq34 : goal.turns-preserved-then-sign-eq34
turns-preserved-then-sign-eq34 c =
    let bytes = c.args.bytes.now in
    let at = c.turns.signs.start in
    let d = c.turns.depth in
    let len = c.in_ok-len.len in
    let found = c.in_ok-len.ensures.first in
    let after = c.first.new.self.start in
    let front : (len ≡ 0) ⊎ ((deeper : ℕ) × ((b : Brackets) → within (step b (Element Word d) (get_or (drop at bytes) (len - 1) 0)).0 ≡ Some (Between, deeper))) =
    elim c.else-len-gt0.branch [
      | else-len-gt0-via-then-len-gt0+else-not-may_quote w ↦
          let may = w.may_quote.ensures w.if-not-may_quote.false in
          let same = before bytes at d len after c.turns.invariant.some found.0 found.1 w.if-len-gt0.true in
          inr (may.0, λ b. ap (λ x. within (step b (Element Word d) x).0) (sym same) ∙ may.1 b)
      | else-len-gt0-via-else-len-gt0 w ↦ inl (omega (arith, w.if-len-gt0.false))
    ] in
    record {
      signs = c.in_ok-pass_string.ensures.signs;
      some = c.turns.invariant.some;
      leads = λ b.
          passed bytes at d len after c.turns.invariant.some found.0 found.1 c.if-sign-eq34.true front b c.pass_string.new.self.start
          c.in_ok-pass_string.ensures.more (c.turns.invariant.leads b) (c.in_ok-pass_string.ensures.closed b d);
    }

pub returns-then-deep-eq0-clause-closed : goal.returns-then-deep-eq0-clause-closed
returns-then-deep-eq0-clause-closed c = λ b.
    turned c.args.bytes.now c.turns.signs.start c.turns.depth c.in_ok-len.len c.first.new.self.start c.turns.invariant.some
    c.in_ok-len.ensures.first.0 c.in_ok-len.ensures.first.1 c.if-sign-eq34.false b 0 (c.turns.invariant.leads b)
    (sym (c.passed_word.ensures b) ∙ c.in-Some-Between-default.is
    ∙ ap (λ m. Some (m, c.in-Some-Between-default.deep)) c.in-Some-Between-default.field-0-0-is ∙ ap (λ n. Some (Between, n)) c.if-deep-eq0.true)

pub turns-preserved : goal.turns-preserved
turns-preserved c =
    let deep = c.in-Some-Between-default.deep in
    record {
      signs = c.in_ok-len.ensures.signs;
      some = omega (arith, c.if-deep-eq0.false);
      leads = λ b.
          turned c.args.bytes.now c.turns.signs.start c.turns.depth c.in_ok-len.len c.first.new.self.start c.turns.invariant.some
          c.in_ok-len.ensures.first.0 c.in_ok-len.ensures.first.1 c.if-sign-eq34.false b deep (c.turns.invariant.leads b)
          (sym (c.passed_word.ensures b) ∙ c.in-Some-Between-default.is ∙ ap (λ m. Some (m, deep)) c.in-Some-Between-default.field-0-0-is);
    }
