use Rattle.std.proofs.Common.{◌≡◌, [], arith, refl, rules, sym, ◌∙◌}
use Rattle.std.proofs.lemmas.Grind.{common_steps}
use Rattle.haya_latex.specs.Texts.{behind_blanks}
use Rattle.haya_latex.proofs.Trimming.{blank_step, first_bytes, none_stays, other_step}
use Rattle.haya_latex.proofs.runs.trimmed_runs.Goals as goal

pub returns-in_default-clause-bytes : goal.returns-in_default-clause-bytes
returns-in_default-clause-bytes c =
    let none : behind_blanks c.args.chars.now ≡ [] = grind (arith, common_steps) in
    rw (c.new-runs.ensures.items, none_stays c.args.chars.now none) refl

pub chars-init : goal.chars-init
chars-init c = record {
  bytes = first_bytes c.args.chars.now c.in-Some.field-0-0.now c.in-Some.behind.now c.new-runs.result.items c.in_ok-last.last
      (sym c.behind_blanks.ensures ∙ c.in-Some.ensures.cases.0) c.new-runs.ensures.items c.in_ok-last.ensures.bytes;
  kinds = first_of (search rules, grind (arith, common_steps));
  texts = first_of (search rules, grind (arith, common_steps));
}

pub chars-preserved-then-c-eq32 : goal.chars-preserved-then-c-eq32
chars-preserved-then-c-eq32 c = record {
  bytes = blank_step _ _ c.chars.blank _ c.in-Some.behind.now c.chars.c-index _ c.chars.invariant.bytes c.chars-test.true c.if-c-eq32.true c.first_blank-blank.ensures;
  kinds = c.chars.invariant.kinds;
  texts = c.chars.invariant.texts;
}

pub chars-preserved : goal.chars-preserved
chars-preserved c = record {
  bytes = other_step _ _ _ _ c.chars.blank c.in-Some.behind.now c.chars.c-index _ c.chars.invariant.bytes c.chars-test.true c.if-c-eq32.false
      c.in_ok-push_blank.ensures.bytes c.in_ok-push_char.ensures.bytes;
  kinds = c.in_ok-push_char.ensures.kinds;
  texts = c.in_ok-push_char.ensures.texts;
}
