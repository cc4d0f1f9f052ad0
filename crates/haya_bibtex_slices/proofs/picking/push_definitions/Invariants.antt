use Rattle.std.proofs.Common.{◌≡◌, ◌++◌, map, take}
use Rattle.std.specs.Prelude.{filter}
use Rattle.haya_bibtex_slices.specs.Texts.{is_definition}
use Rattle.haya_bibtex_slices.specs.Views.{item_view}
use Rattle.haya_bibtex_slices.proofs.picking.push_definitions.Given as goal

abbrev pub invariant-items : goal.invariant-items
invariant-items l =
    map (λ s. s.now) l.parts.items
    ≡ map (λ s. s.now) l.initial.parts.items
    ++ map (λ i. i.part) (filter is_definition (map item_view (take l.item-index l.items)))
