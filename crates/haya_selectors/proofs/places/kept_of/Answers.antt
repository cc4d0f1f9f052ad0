use Rattle.std.proofs.Common.{◌≡◌, ◌∙◌, ap, map, false, rules, sym}
use Rattle.std.specs.Prelude.{filter}
use Rattle.std.proofs.lemmas.Fn.{filter_same}
use Rattle.haya_entry.specs.Names.{has_all}
use Rattle.haya_entry.specs.Tree.{view}
use Rattle.haya_selectors.specs.Holds.{some_places}
use Rattle.haya_selectors.specs.Places.{at_place}
use Rattle.haya_selectors.proofs.Kept.{kept_of_some, none_of, some_of}
use Rattle.haya_selectors.proofs.places.kept_of.Goals as goal

pub returns-then-is_empty-2 : goal.returns-then-is_empty-2
returns-then-is_empty-2 c =
    let names = c.args.names.now in
    let xs = map view c.args.parents.now in
    let filtered : c.retain.new.self.items ≡ filter (at_place false (has_all names) xs) c.args.candidates.items =
    filter_same _ _ _ (λ x b f h. search rules) _ _ c.retain.ensures.filtered in
    sym (none_of c.retain.new.self.items (search rules)) ∙ ap some_places filtered ∙ sym (kept_of_some names xs c.args.candidates.items (search rules))

pub returns : goal.returns
returns c =
    let names = c.args.names.now in
    let xs = map view c.args.parents.now in
    let filtered : c.retain.new.self.items ≡ filter (at_place false (has_all names) xs) c.args.candidates.items =
    filter_same _ _ _ (λ x b f h. search rules) _ _ c.retain.ensures.filtered in
    sym (some_of c.retain.new.self.items (search rules)) ∙ ap some_places filtered ∙ sym (kept_of_some names xs c.args.candidates.items (search rules))
