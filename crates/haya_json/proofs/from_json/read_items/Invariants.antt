use Rattle.std.proofs.Common.{◌≡◌, drop, map}
use Rattle.json.specs.Value.{items_view}
use Rattle.haya_json.specs.Parts.{items_of}
use Rattle.haya_json.proofs.Lists.{after}
use Rattle.haya_json.proofs.from_json.read_items.Given as goal

-- the values of all items are those that are read, and then those of the items left
abbrev pub invariant-values : goal.invariant-values
invariant-values g l =
    items_of g.T.FromJson.reads 0 (items_view l.items.items)
    ≡ after (map g.T.FromJson.view l.values.items)
    (items_of g.T.FromJson.reads l.place (items_view (drop l.place l.items.items)))
