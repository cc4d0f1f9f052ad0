use Rattle.std.proofs.Common.{◌≡◌, ◌+◌, ◌++◌, ◌∷◌, [], map, take, sym, ap, ◌∙◌}
use Rattle.std.proofs.lemmas.List.{map-append, take_more}
use Rattle.haya_entry.specs.Tree.{view, with_parents}
use Rattle.haya_entry.proofs.Trees.{with_own_parents}
use Rattle.haya_entry.proofs.entry.copies.+copies_of.Goals as goal

pub loop-entry-preserved : goal.loop-entry-preserved
loop-entry-preserved t c =
    let e = c.entry-item.result in
    let i = c.loop-entry.entry-index in
    let entries = c.args.entries.now in
    let parents = map view c.in_ok-parents.parents.items in
    let own : with_parents parents (view e) ≡ view e = with_own_parents e parents (c.in_ok-parents.ensures ∙ ap (map view) c.deref.ensures.value) in
    let more : map view (take (i + 1) entries) ≡ map view (take i entries) ++ view e ∷ [] =
    ap (map view) (take_more entries i e c.loop-entry-test.true ∙ ap (λ x. take i entries ++ x ∷ []) (sym c.entry-item.is)) ∙ map-append view (take i entries) (e ∷ []) in
    c.in_ok-push_copy.ensures ∙ ap (λ l. l ++ with_parents parents (view e) ∷ []) c.loop-entry.invariant ∙ ap (λ x. map view (take i entries) ++ x ∷ []) own ∙ sym more
