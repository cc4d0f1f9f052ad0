use Rattle.std.proofs.Common.{◌≡◌, ◌+◌, ◌<◌, ◌≤◌, ◌⊎◌, ℕ, false, get_or, inl, inr, arith}
use Rattle.std.proofs.lemmas.Bool.{cases_lt}
use Rattle.haya_slices.specs.Sought.{is_sign}
use Rattle.haya_slices.proofs.Bits.{behind_sign, next_sign, none_left}
use Rattle.haya_slices.proofs.signs.Signs.next.Goals as goal

pub signs-preserved : goal.signs-preserved
signs-preserved c = record {
  signs = c.in_ok-look_on.ensures.signs;
  order = omega (arith, c.signs.invariant.order, c.signs.invariant.signs.order, c.in_ok-look_on.ensures.start);
  none = λ k from to. elim (cases_lt k c.signs.self.start) [
    | inl before ↦ c.signs.invariant.none k from before
    | inr here ↦ none_left c.args.bytes.now c.signs.self c.signs.invariant.signs c.signs-test.true k here
        (omega (arith, c.in_ok-look_on.ensures.start, to))
  ];
}

pub returns-clause-signs : goal.returns-clause-signs
returns-clause-signs c = behind_sign c.args.bytes.now c.signs.self c.signs.invariant.signs c.signs-test.false

pub returns-clause-next : goal.returns-clause-next
returns-clause-next c =
    let found = next_sign c.args.bytes.now c.signs.self c.signs.invariant.signs c.signs-test.false in
    record {
      order = omega (arith, found.order, c.signs.invariant.order);
      within = found.within;
      before = λ k from to. elim (cases_lt k c.signs.self.start) [
        | inl before ↦ c.signs.invariant.none k from before
        | inr here ↦ found.before k here to
      ];
      there = found.there;
    }
