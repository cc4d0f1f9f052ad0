use Rattle.std.proofs.Common.{sym, subst, rules, true, false}
use Rattle.std.specs.Prelude.{map}
use Rattle.haya_json_elements.specs.Steps.{closing_bracket, opening_bracket}
use Rattle.haya_slices.specs.Layout.{IsLaidOut}
use Rattle.haya_slices.specs.Scan.{BeginsByte, BeginsWith}
use Rattle.haya_slices.proofs.Listed.{IsLaidOutBut, kept, last_found, no_elements, none_found, one_found}
use Rattle.haya_slices.proofs.slices.element_slices.Goals as goal

pub elements-init : goal.elements-init
elements-init c =
    let b = c.args.brackets in
    let text = c.args.text.now in
    let list = c.in-Some.list.now in
    let begins : BeginsByte (opening_bracket b) text list =
    subst (λ x. BeginsByte x text list) c.opening_byte.ensures c.in-Some.ensures in
    let laid : IsLaidOutBut b text (map (λ s. s.now) c.new-slices.result.items) list =
    subst (λ xs. IsLaidOutBut b text (map (λ s. s.now) xs) list)
    (sym c.new-slices.ensures.items) (none_found b text list begins) in
    (search rules, laid)

pub elements-preserved : goal.elements-preserved
elements-preserved c =
    let b = c.args.brackets in
    let text = c.args.text.now in
    let first = c.in-Some-first_element.first in
    let rest = c.elements.rest.now in
    let begins : BeginsWith b rest first.element.now false first.behind.now =
    subst (λ k. BeginsWith b rest first.element.now k first.behind.now)
    c.if-first.false c.in-Some-first_element.ensures in
    let laid : IsLaidOutBut b text (map (λ s. s.now) c.push.new.slices.items) first.behind.now =
    subst (λ xs. IsLaidOutBut b text xs first.behind.now) (sym c.in_ok-push.ensures)
    (one_found b text (map (λ s. s.now) c.elements.slices.items) rest
    first.element.now first.behind.now c.elements.invariant.1 begins) in
    (search rules, laid)

pub returns-then-first : goal.returns-then-first
returns-then-first c =
    let b = c.args.brackets in
    let text = c.args.text.now in
    let first = c.in-Some-first_element.first in
    let rest = c.elements.rest.now in
    let begins : BeginsWith b rest first.element.now true first.behind.now =
    subst (λ k. BeginsWith b rest first.element.now k first.behind.now)
    c.if-first.true c.in-Some-first_element.ensures in
    kept b text c.before_white-then-first.result c.push.new.slices.items first.behind.now
    c.before_white-then-first.ensures
    (λ white. subst (IsLaidOut b text) (sym c.in_ok-push.ensures)
    (last_found b text (map (λ s. s.now) c.elements.slices.items) rest
    first.element.now first.behind.now c.elements.invariant.1 begins white))

pub returns-in-Some-behind_byte : goal.returns-in-Some-behind_byte
returns-in-Some-behind_byte c =
    let b = c.args.brackets in
    let text = c.args.text.now in
    let list = c.in-Some.list.now in
    let back = c.in-Some-behind_byte.back.now in
    let begins : BeginsByte (opening_bracket b) text list =
    subst (λ x. BeginsByte x text list) c.opening_byte.ensures c.in-Some.ensures in
    let closes : BeginsByte (closing_bracket b) list back =
    subst (λ x. BeginsByte x list back) c.closing_byte.ensures c.in-Some-behind_byte.ensures in
    kept b text c.before_white.result c.new-slices.result.items back c.before_white.ensures
    (λ white. subst (λ xs. IsLaidOut b text (map (λ s. s.now) xs)) (sym c.new-slices.ensures.items)
    (no_elements b text list back begins closes white))
