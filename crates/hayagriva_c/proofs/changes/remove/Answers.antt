use Rattle.std.proofs.Common.{◌≡◌, None, ap, inl, refl, subst, sym, ◌∙◌}
use Rattle.std.specs.Prelude.{option_map}
use Rattle.haya_entry.specs.Tree.{view}
use Rattle.hayagriva.specs.Library.{get, has_key}
use Rattle.hayagriva_c.specs.Changing.{RemovesKey}
use Rattle.hayagriva_c.proofs.Removed.{not_there}
use Rattle.hayagriva_c.proofs.changes.remove.Goals as goal

pub returns-in-None : goal.returns-in-None
returns-in-None c =
    let old = c.args.shelf.now in
    let new = record old { library = c.remove.new.self } in
    let text = c.in-Ok.ensures.cases in
    let key = c.in-Ok.key.now in
    let none : get key old.library ≡ None = sym c.remove.ensures.entry ∙ ap (option_map view) c.in-None.is in
    let same : c.remove.new.self ≡ old.library = c.remove.ensures.rest ∙ not_there (has_key key) old.library none in
    let keeps : RemovesKey key (get key old.library) old new 2 =
    subst (λ o. RemovesKey key o old new 2) (sym none) (refl, ap (λ l. record old { library = l }) same) in
    inl (text.1, subst (λ k. RemovesKey k (get k old.library) old new 2) text.0 keeps)
