use Rattle.std.proofs.Common.{◌≡◌, ◌+◌, ◌++◌, [], ◌∷◌, map, take, true, ap, sym, subst, ◌∙◌, arith}
use Rattle.std.proofs.lemmas.List.{take_more}
use Rattle.haya_bibtex_slices.specs.Printed.{AddsPicked}
use Rattle.haya_bibtex_slices.specs.Views.{item_view}
use Rattle.haya_bibtex_slices.proofs.PickedHits.{picked_more}
use Rattle.haya_bibtex_slices.proofs.printing.push_hits.Goals as goal

pub hits-preserved : goal.hits-preserved
hits-preserved c =
    let hits = c.args.hits.now in
    let at = c.hits.hit-index in
    let hit = c.hit-item.result in
    let items = map item_view c.args.items.now in
    let taken : take (at + 1) hits ≡ take at hits ++ hit ∷ [] =
    take_more hits at hit c.hits-test.true ∙ ap (λ x. take at hits ++ x ∷ []) (sym c.hit-item.is) in
    let found : c.in_ok-push_hit.field-0 ≡ true = grind (arith, c.if-not-branch.false) in
    subst (λ hs. AddsPicked items hs (map (λ s. s.now) c.args.parts.now.items) (map (λ s. s.now) c.push_hit.new.parts.items))
    (sym taken) (picked_more items (take at hits) hit _ _ _ c.hits.invariant (c.in_ok-push_hit.ensures found))
