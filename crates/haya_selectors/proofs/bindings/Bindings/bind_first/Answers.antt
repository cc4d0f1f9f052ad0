use Rattle.std.proofs.Common.{◌≡◌, ◌∙◌, Some, ap, length, map, refl, rules}
use Rattle.std.specs.Prelude.{option_map, slice_get}
use Rattle.std.proofs.lemmas.Option.{slice_get_read, slice_get-map}
use Rattle.haya_entry.specs.Tree.{view}
use Rattle.haya_selectors.specs.Candidates.{candidate_places}
use Rattle.haya_selectors.proofs.CutBack.{bound_first, first_in}
use Rattle.haya_selectors.proofs.bindings.Bindings.bind_first.Goals as goal

pub returns-in_ok-bind : goal.returns-in_ok-bind
returns-in_ok-bind c = λ names.
    let ps = c.args.parents.now in
    let i = c.in-Some.first in
    let e = c.index-parents-first.result in
    let places = candidate_places (map view ps) c.args.candidates.now in
    let first : slice_get places 0 ≡ Some i = search rules in
    let there : slice_get (map view ps) i ≡ Some (view e) =
    slice_get-map view ps i ∙ ap (option_map view) (slice_get_read ps (length ps) i e refl (first_in (length ps) places i c.requires first) (search rules)) in
    bound_first names (map view ps) places i c.args.slot e c.args.self.now c.bind.new.self first there c.in_ok-bind.ensures
