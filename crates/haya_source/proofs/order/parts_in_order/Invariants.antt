use Rattle.std.proofs.Common.{◌≡◌, List, Some, map, take}
use Rattle.hayagriva.specs.Library.{key_of}
use Rattle.hayagriva.specs.Query.{hit_entry}
use Rattle.haya_source.specs.Elements.{Element, entries_of, parts_of}
use Rattle.haya_source.specs.Places.{part_for}
use Rattle.haya_source.proofs.order.parts_in_order.Given as goal

-- the parts so far are those of the hits so far
abbrev pub invariant-hits : goal.invariant-hits
invariant-hits l =
    (es : List Element) → map (λ s. s.now) l.parts ≡ parts_of es → l.library ≡ entries_of es
    → map (λ hit. part_for (key_of (hit_entry hit)) es) (take l.hit-index l.hits)
    ≡ map (λ s. Some s.now) l.found.items
