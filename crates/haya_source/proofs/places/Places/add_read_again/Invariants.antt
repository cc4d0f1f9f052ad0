use Rattle.std.proofs.Common.{◌≡◌, ◌++◌, List, take}
use Rattle.std.specs.Prelude.{map}
use Rattle.haya_source.specs.Elements.{Element, SayEntries, parts_of}
use Rattle.haya_source.specs.Places.{ArePlacesOf}
use Rattle.haya_source.proofs.places.Places.add_read_again.Given as goal

abbrev pub invariant-parts : goal.invariant-parts
invariant-parts l =
    (es before : List Element) → map (λ s. s.now) l.fn.parts ≡ parts_of es
    → SayEntries l.fn.kind es → ArePlacesOf before l.fn.self
    → ArePlacesOf (before ++ take l.place es) l.self
