use Rattle.std.proofs.Common.{map, arith}
use Rattle.haya_bibtex_slices.specs.Views.{item_view}
use Rattle.haya_bibtex_slices.proofs.Picked.{at_place, none_more}
use Rattle.haya_bibtex_slices.proofs.picking.push_item_at.Goals as goal

pub returns-then-place-items : goal.returns-then-place-items
returns-then-place-items c =
    none_more (map item_view c.args.items.now) (map (λ s. s.now) c.args.parts.now.items)

pub returns : goal.returns
returns c = at_place c.args.items.now c.args.place _ _ _ (omega arith) c.in_ok-push.ensures.items
