use Rattle.std.proofs.Common.{map}
use Rattle.haya_bibtex_slices.specs.Adding.{AddsSome}
use Rattle.haya_bibtex_slices.specs.Views.{item_view}
use Rattle.haya_bibtex_slices.proofs.picking.push_items_at.Given as goal

abbrev pub invariant-places : goal.invariant-places
invariant-places l =
    AddsSome (map item_view l.items) (map (λ s. s.now) l.initial.parts.items) (map (λ s. s.now) l.parts.items)
