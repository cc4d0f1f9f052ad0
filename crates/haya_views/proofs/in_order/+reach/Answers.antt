use Rattle.std.proofs.Common.{◌≡◌, ◌≤◌, ◌+◌, ◌-◌, Some, length, map, ap, sym, subst, ◌∙◌, arith}
use Rattle.std.specs.List.{flat_map}
use Rattle.std.specs.Prelude.{slice_get}
use Rattle.std.proofs.lemmas.List.{length-map, take_all}
use Rattle.haya_entry.specs.Tree.{parents, view}
use Rattle.haya_entry.proofs.Trees.{parents_is}
use Rattle.haya_views.specs.InOrder.{in_order}
use Rattle.haya_views.proofs.Orders.{deeper, first_is, in_order_length, item, past, past_more, reached}
use Rattle.haya_views.proofs.in_order.+reach.Goals as goal

pub returns-then-left-eq0 : goal.returns-then-left-eq0
returns-then-left-eq0 t c =
    let ts = map view c.args.entries.now in
    let k = c.entries.entry-index in
    let e = c.entry-item.result in
    let at = item c.args.entries.now k e c.entries-test.true (sym c.entry-item.is) in
    ap (slice_get (flat_map in_order ts)) (c.entries.invariant ∙ ap (λ n. past ts k + n) c.if-left-eq0.true)
    ∙ reached ts k 0 (view e) (view e) at (first_is (view e))

pub returns-in-Ok : goal.returns-in-Ok
returns-in-Ok t c =
    let ts = map view c.args.entries.now in
    let k = c.entries.entry-index in
    let e = c.entry-item.result in
    let n = c.entries.left - 1 in
    let u = view c.in-Ok.found.now in
    let at = item c.args.entries.now k e c.entries-test.true (sym c.entry-item.is) in
    let same : map view c.deref.result.now ≡ parents (view e) = ap (map view) c.deref.ensures.value ∙ sym (parents_is e) in
    let sub : slice_get (flat_map in_order (parents (view e))) n ≡ Some u = subst (λ ps. slice_get (flat_map in_order ps) n ≡ Some u) same c.in-Ok.ensures in
    let back : c.entries.left ≡ n + 1 = omega (arith, c.if-left-eq0.false) in
    ap (slice_get (flat_map in_order ts)) (c.entries.invariant ∙ ap (λ m. past ts k + m) back)
    ∙ reached ts k (n + 1) (view e) u at (deeper (view e) u n sub)

pub entries-preserved : goal.entries-preserved
entries-preserved t c =
    let ts = map view c.args.entries.now in
    let k = c.entries.entry-index in
    let e = c.entry-item.result in
    let at = item c.args.entries.now k e c.entries-test.true (sym c.entry-item.is) in
    let same : map view c.deref.result.now ≡ parents (view e) = ap (map view) c.deref.ensures.value ∙ sym (parents_is e) in
    let less : c.entries.left - 1 ≡ length (flat_map in_order (parents (view e))) + c.in-Err.more =
    subst (λ ps. c.entries.left - 1 ≡ length (flat_map in_order ps) + c.in-Err.more) same c.in-Err.ensures in
    let so : c.args.step ≡ past ts k + c.entries.left = c.entries.invariant in
    let more : past ts (k + 1) ≡ past ts k + length (in_order (view e)) = past_more ts k (view e) at in
    let all : length (in_order (view e)) ≡ length (flat_map in_order (parents (view e))) + 1 = in_order_length (view e) in
    let end : c.args.step ≡ past ts (k + 1) + c.in-Err.more = omega (arith, so, less, more, all, c.if-left-eq0.false) in
    end

pub returns : goal.returns
returns t c =
    let ts = map view c.args.entries.now in
    let k = c.entries.entry-index in
    let past_all : length ts ≤ k = subst (λ n. n ≤ k) (sym (length-map c.args.entries.now view)) (omega (arith, c.entries-test.false)) in
    c.entries.invariant ∙ ap (λ l. length (flat_map in_order l) + c.entries.left) (take_all k ts past_all)
