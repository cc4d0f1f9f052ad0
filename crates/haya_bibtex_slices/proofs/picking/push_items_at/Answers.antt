use Rattle.std.proofs.Common.{map}
use Rattle.haya_bibtex_slices.specs.Views.{item_view}
use Rattle.haya_bibtex_slices.proofs.Picked.{none_more, then_more}
use Rattle.haya_bibtex_slices.proofs.picking.push_items_at.Goals as goal

pub places-init : goal.places-init
places-init c = none_more (map item_view c.args.items.now) (map (λ s. s.now) c.args.parts.now.items)

pub places-preserved : goal.places-preserved
places-preserved c = then_more _ _ _ _ c.places.invariant c.in_ok-push_item_at.ensures
