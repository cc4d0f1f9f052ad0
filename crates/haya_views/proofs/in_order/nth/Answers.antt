use Rattle.std.proofs.Common.{◌≡◌, ◌≤◌, ◌+◌, ◌-◌, Some, length, map, ap, sym, subst, ◌∙◌, arith}
use Rattle.std.specs.List.{flat_map}
use Rattle.std.specs.Prelude.{slice_get}
use Rattle.std.proofs.lemmas.Option.{slice_get_past}
use Rattle.haya_entry.specs.Tree.{parents, view}
use Rattle.haya_views.specs.InOrder.{in_order}
use Rattle.haya_views.proofs.Orders.{deeper, first_is, in_order_length, part_le}
use Rattle.haya_views.proofs.in_order.nth.Goals as goal

pub returns-then-step-eq0 : goal.returns-then-step-eq0
returns-then-step-eq0 c = sym (ap (slice_get (in_order (view c.args.entry.now))) c.if-step-eq0.true ∙ first_is (view c.args.entry.now))

pub returns-in-Ok : goal.returns-in-Ok
returns-in-Ok c =
    let t = view c.args.entry.now in
    let n = c.args.step - 1 in
    let u = view c.in-Ok.ancestor.now in
    let sub : slice_get (flat_map in_order (parents t)) n ≡ Some u = subst (λ ps. slice_get (flat_map in_order ps) n ≡ Some u) c.parents.ensures c.in-Ok.ensures in
    let back : c.args.step ≡ n + 1 = omega (arith, c.if-step-eq0.false) in
    sym (ap (slice_get (in_order t)) back ∙ deeper t u n sub)

pub returns-in-Err : goal.returns-in-Err
returns-in-Err c =
    let t = view c.args.entry.now in
    let n = c.args.step - 1 in
    let past : length (flat_map in_order (map view c.parents.result.now)) ≤ n = part_le _ _ _ c.in-Err.ensures in
    let less : length (flat_map in_order (parents t)) ≤ n = subst (λ ps. length (flat_map in_order ps) ≤ n) c.parents.ensures past in
    let all = in_order_length t in
    sym (slice_get_past (in_order t) c.args.step (omega (arith, less, all, c.if-step-eq0.false)))
