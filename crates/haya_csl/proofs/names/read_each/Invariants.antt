use Rattle.std.proofs.Common.{◌≡◌, ◌++◌, drop}
use Rattle.json.specs.Value.{items_view}
use Rattle.haya_json.specs.Notes.{losts_view}
use Rattle.haya_csl.specs.NameParts.{persons_view}
use Rattle.haya_csl.specs.Names.{lost_in, persons_in}
use Rattle.haya_csl.proofs.names.read_each.Given as goal

-- the persons of all items are those so far, and then those of the items left; so is what is lost
abbrev pub invariant-names : goal.invariant-names
invariant-names l =
    (persons_in l.of (items_view l.items.items)
    ≡ persons_view l.persons.items ++ persons_in l.of (items_view (drop l.place l.items.items)))
    × (lost_in l.of 0 (items_view l.items.items)
    ≡ losts_view l.lost.items ++ lost_in l.of l.place (items_view (drop l.place l.items.items)))
