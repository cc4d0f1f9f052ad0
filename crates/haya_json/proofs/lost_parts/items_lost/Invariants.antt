use Rattle.std.proofs.Common.{◌≡◌, ◌++◌, drop}
use Rattle.json.specs.Value.{items_view}
use Rattle.haya_json.specs.LostParts.{items_lost}
use Rattle.haya_json.specs.Notes.{losts_view}
use Rattle.haya_json.proofs.lost_parts.items_lost.Given as goal

-- what is lost so far, and then what is lost of the items left, is all
abbrev pub invariant-items : goal.invariant-items
invariant-items g l =
    items_lost g.T.HasParts.part l.of 0 (items_view l.items.items)
    ≡ losts_view l.lost.items ++ items_lost g.T.HasParts.part l.of l.place (items_view (drop l.place l.items.items))
