use Rattle.std.proofs.Common.{arith, sym}
use Rattle.haya_bibtex_text.specs.Items.{an_item, behind_item, behind_skipped, behind_stray, in_item, in_skipped, no_more, skipped}
use Rattle.haya_bibtex_text.proofs.ItemByItem.{sign_first, sign_of_remark}
use Rattle.haya_bibtex_text.proofs.Stopping.{stops_whole}
use Rattle.haya_bibtex_text.proofs.items.next_item.Goals as goal

pub returns-in_default-clause-none : goal.returns-in_default-clause-none
returns-in_default-clause-none c = c.items.invariant.items _ (no_more (sym c.in_default.ensures.left))

pub returns-then-not-is_remark-clause-item : goal.returns-then-not-is_remark-clause-item
returns-then-not-is_remark-clause-item c =
    sign_first _ _ _ c.items.invariant.items (sym c.in-Some.ensures.left) (sym c.in_default-read_opening.ensures.opening)
    (sym c.if-not-is_remark.ensures)

pub returns-then-not-is_remark-clause-behind : goal.returns-then-not-is_remark-clause-behind
returns-then-not-is_remark-clause-behind c = λ f later.
    c.items.invariant.fault f (behind_stray (sym c.in-Some.ensures.left) (sym c.in_default-read_opening.ensures.opening) later)

pub items-preserved-in_default-read_opening : goal.items-preserved-in_default-read_opening
items-preserved-in_default-read_opening c = record {
  items = sign_of_remark _ _ _ c.items.invariant.items (sym c.in-Some.ensures.left)
      (sym c.in_default-read_opening.ensures.opening) (sym c.if-not-is_remark.ensures);
  fault = λ f later. c.items.invariant.fault f
      (behind_stray (sym c.in-Some.ensures.left) (sym c.in_default-read_opening.ensures.opening) later);
  shorter = omega (arith, c.in-Some.ensures.shorter, c.items.invariant.shorter);
}

pub returns-in-Err-clause-fault : goal.returns-in-Err-clause-fault
returns-in-Err-clause-fault c = c.items.invariant.fault _
    (in_skipped (sym c.in-Some.ensures.left) (sym c.in-Some-read_opening.ensures.opening) (sym c.if-is_skipped.ensures) c.in-Err.ensures.fault)

pub items-preserved : goal.items-preserved
items-preserved c = record {
  items = λ is v. c.items.invariant.items is
      (skipped (sym c.in-Some.ensures.left) (sym c.in-Some-read_opening.ensures.opening) (sym c.if-is_skipped.ensures) c.in-Ok.ensures.ok v);
  fault = λ f later. c.items.invariant.fault f
      (behind_skipped (sym c.in-Some.ensures.left) (sym c.in-Some-read_opening.ensures.opening) (sym c.if-is_skipped.ensures) c.in-Ok.ensures.ok later);
  shorter = omega (arith, c.in-Ok.ensures.shorter, c.in-Some-read_opening.ensures.shorter, c.in-Some.ensures.shorter, c.items.invariant.shorter);
}

pub returns-in-Ok-read_item-clause-item : goal.returns-in-Ok-read_item-clause-item
returns-in-Ok-read_item-clause-item c =
    let item = rw c.behind_blank-inside.ensures.left at c.in-Ok-read_item.ensures.ok in
    λ is v. c.items.invariant.items _
    (an_item (sym c.in-Some.ensures.left) (sym c.in-Some-read_opening.ensures.opening) (sym c.if-is_skipped.ensures) item v)

pub returns-in-Ok-read_item-clause-behind : goal.returns-in-Ok-read_item-clause-behind
returns-in-Ok-read_item-clause-behind c =
    let item = rw c.behind_blank-inside.ensures.left at c.in-Ok-read_item.ensures.ok in
    λ f later. c.items.invariant.fault f
    (behind_item (sym c.in-Some.ensures.left) (sym c.in-Some-read_opening.ensures.opening) (sym c.if-is_skipped.ensures) item later)

pub returns-in-Err-read_item-clause-fault : goal.returns-in-Err-read_item-clause-fault
returns-in-Err-read_item-clause-fault c =
    let item = rw c.behind_blank-inside.ensures.left at c.in-Err-read_item.ensures.fault in
    stops_whole _ _ (λ f fails. c.items.invariant.fault f
    (in_item (sym c.in-Some.ensures.left) (sym c.in-Some-read_opening.ensures.opening) (sym c.if-is_skipped.ensures) fails)) _ item
