use Rattle.std.proofs.Common.{◌≡◌, ◌∙◌, Bool, true, ◌&&◌, false, refl, ap, arith, sym, slice_index_or}
use denote.Param.Weighed.{most}
use Rattle.haya_selectors.specs.declared.selector.Selector.{size-Selector}
use Rattle.haya_selectors.specs.declared.selector.Selector.TheViews.{sized-Alt, sized-Multi}
use Rattle.haya_selectors.specs.Equality.{selector_eq}
use Rattle.haya_selectors.proofs.Equals.{deeper, eq_from, none_left, unequal_lengths}
use Rattle.haya_selectors.proofs.equal.+equal.Goals as goal

pub all_equal-returns-then-left-right : goal.all_equal-returns-then-left-right
all_equal-returns-then-left-right t c = sym (unequal_lengths c.args.left.now c.args.right.now c.if-left-right.true)

and_true : (a b : Bool) → b ≡ true → (a && b) ≡ a
and_true true b h = h
and_true false b h = refl

and_false : (a b : Bool) → b ≡ false → (a && b) ≡ false
and_false true b h = h
and_false false b h = refl

pub all_equal-returns-then-not-eq : goal.all_equal-returns-then-not-eq
all_equal-returns-then-not-eq t c =
    let xs = c.args.left.now in
    let ys = c.args.right.now in
    let x = c.index-left-i.result in
    let y = c.index-right-i.result in
    let e = eq_from xs ys c.members.i x y (omega arith) (omega arith) in
    let is : selector_eq x y ≡ selector_eq (slice_index_or xs c.members.i x) (slice_index_or ys c.members.i y) =
    λ i. selector_eq (c.index-left-i.is i) (c.index-right-i.is i) in
    let unequal = sym is ∙ sym c.eq.ensures ∙ c.if-not-eq.true in
    sym (and_false _ _ unequal) ∙ sym e ∙ c.members.invariant

pub all_equal-members-preserved : goal.all_equal-members-preserved
all_equal-members-preserved t c =
    let xs = c.args.left.now in
    let ys = c.args.right.now in
    let x = c.index-left-i.result in
    let y = c.index-right-i.result in
    let e = eq_from xs ys c.members.i x y (omega arith) (omega arith) in
    let is : selector_eq x y ≡ selector_eq (slice_index_or xs c.members.i x) (slice_index_or ys c.members.i y) =
    λ i. selector_eq (c.index-left-i.is i) (c.index-right-i.is i) in
    let equal = sym is ∙ sym c.eq.ensures ∙ c.if-not-eq.false in
    sym (and_true _ _ equal) ∙ sym e ∙ c.members.invariant

pub first_pair-returns-in_default-clause-told : goal.first_pair-returns-in_default-clause-told
first_pair-returns-in_default-clause-told t c = none_left c.args.left.now c.args.right.now c.is_empty.result c.in_default.ensures.cases c.is_empty.ensures

pub next_pair-returns-in-Alt-Alt-clause-deep : goal.next_pair-returns-in-Alt-Alt-clause-deep
next_pair-returns-in-Alt-Alt-clause-deep t c =
    let a = c.in-Alt-Alt.a in
    let left = ap size-Selector c.in-Alt-Alt.is-0 in
    let members = ap (most size-Selector) c.deref-in-Alt-Alt.ensures.value in
    deeper (λ pair. size-Selector pair.0.now) c.first_pair.result _ _ (omega (arith, left, members, sized-Alt a)) c.first_pair.ensures.deep

pub next_pair-returns-in-Multi-Multi-clause-deep : goal.next_pair-returns-in-Multi-Multi-clause-deep
next_pair-returns-in-Multi-Multi-clause-deep t c =
    let a = c.in-Multi-Multi.a in
    let left = ap size-Selector c.in-Multi-Multi.is-0 in
    let members = ap (most size-Selector) c.deref-in-Multi-Multi.ensures.value in
    deeper (λ pair. size-Selector pair.0.now) c.first_pair-in-Multi-Multi.result _ _ (omega (arith, left, members, sized-Multi a)) c.first_pair-in-Multi-Multi.ensures.deep
