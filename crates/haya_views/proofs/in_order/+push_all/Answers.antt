use Rattle.std.proofs.Common.{◌≡◌, ◌+◌, ◌++◌, ◌∷◌, [], drop, map, ap, sym, ◌∙◌}
use Rattle.std.specs.List.{flat_map}
use Rattle.std.proofs.lemmas.List.{map-append}
use Rattle.haya_entry.specs.Tree.{parents, view}
use Rattle.haya_entry.proofs.Trees.{parents_is}
use Rattle.haya_views.specs.InOrder.{in_order}
use Rattle.haya_views.proofs.Orders.{entry_more, seen}
use Rattle.haya_views.proofs.in_order.+push_all.Goals as goal

pub entries-preserved : goal.entries-preserved
entries-preserved t c =
    let e = c.entry-item.result in
    let A = map seen c.entries.all.items in
    let R = flat_map in_order (map view (drop (c.entries.entry-index + 1) c.args.entries.now)) in
    let same : map view c.deref.result.now ≡ parents (view e) = ap (map view) c.deref.ensures.value ∙ sym (parents_is e) in
    let pushed : map seen c.push_all.new.all.items ≡ (A ++ view e ∷ []) ++ flat_map in_order (parents (view e)) =
    c.in_ok-push_all.ensures
    ∙ ap (λ l. l ++ flat_map in_order (map view c.deref.result.now)) (ap (map seen) c.in_ok-push.ensures.items ∙ map-append seen c.entries.all.items _)
    ∙ ap (λ ps. (A ++ view e ∷ []) ++ flat_map in_order ps) same in
    ap (λ l. l ++ R) pushed
    ∙ sym (entry_more c.args.entries.now c.entries.entry-index e c.entries-test.true (sym c.entry-item.is) A)
    ∙ c.entries.invariant
