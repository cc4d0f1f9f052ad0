use Rattle.std.proofs.Common.{◌≡◌, ◌∙◌, false, length, map, rules, sym}
use Rattle.std.specs.Prelude.{◌==◌}
use Rattle.std.specs.List.{list_any}
use Rattle.std.proofs.lemmas.List.{length-map}
use Rattle.haya_entry.specs.Names.{has_all}
use Rattle.haya_entry.specs.Tree.{view}
use Rattle.haya_selectors.proofs.Kept.{none_kept}
use Rattle.haya_selectors.proofs.places.kept_places.Goals as goal

pub returns-then-not-any_has : goal.returns-then-not-any_has
returns-then-not-any_has c =
    let ps = c.args.parents.now in
    let some : (length ps == 0) ≡ false = search rules in
    let none : list_any (has_all c.args.names.now) (map view ps) ≡ false = sym c.any_has.ensures ∙ search rules in
    rw c.in-All.is (sym (none_kept c.args.names.now (map view ps) (rw length-map some) none))
