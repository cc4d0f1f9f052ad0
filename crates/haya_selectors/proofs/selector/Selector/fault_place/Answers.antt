use Rattle.std.proofs.Common.{rules}
use Rattle.std.proofs.lemmas.Str.{IsCharBoundary-end}
use Rattle.haya_selectors.proofs.OneOutcome.{is_read, text_gives}
use Rattle.haya_selectors.proofs.selector.Selector.fault_place.Goals as goal

pub returns-in_default : goal.returns-in_default
returns-in_default c =
    let told = c.place_of_fault.ensures _ (is_read _ _ (text_gives _ _ _ _ c.new-tokens.ensures c.expr-read.ensures.value)) in
    (rw (c.in_ok-place.was, c.in_default.is) at told, tt)

pub returns-then-is_boundary : goal.returns-then-is_boundary
returns-then-is_boundary c =
    let told = c.place_of_fault.ensures _ (is_read _ _ (text_gives _ _ _ _ c.new-tokens.ensures c.expr-read.ensures.value)) in
    (rw (c.in_ok-place.was, c.in-Some.is) at told, search rules)

pub returns-else-is_boundary : goal.returns-else-is_boundary
returns-else-is_boundary c =
    let told = c.place_of_fault.ensures _ (is_read _ _ (text_gives _ _ _ _ c.new-tokens.ensures c.expr-read.ensures.value)) in
    (rw (c.in_ok-place.was, c.in-Some.is) at told, IsCharBoundary-end c.args.text.now)
