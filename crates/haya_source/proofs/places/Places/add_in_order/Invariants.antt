use Rattle.std.proofs.Common.{◌≡◌, ◌++◌, List, take}
use Rattle.std.specs.Prelude.{map}
use Rattle.haya_source.specs.Elements.{Element, entries_of, parts_of}
use Rattle.haya_source.specs.Places.{ArePlacesOf}
use Rattle.haya_source.proofs.places.Places.add_in_order.Given as goal

abbrev pub invariant-entries : goal.invariant-entries
invariant-entries l =
    (es before : List Element) → map (λ s. s.now) l.fn.parts ≡ parts_of es
    → l.fn.library ≡ entries_of es → ArePlacesOf before l.fn.self
    → ArePlacesOf (before ++ take l.place es) l.self
