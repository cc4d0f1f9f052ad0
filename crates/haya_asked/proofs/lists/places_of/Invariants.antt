use Rattle.std.proofs.Common.{◌≡◌, Some, map, take}
use Rattle.haya_questions.specs.Place.{place_read, place_view}
use Rattle.haya_asked.proofs.lists.places_of.Given as goal

-- those so far are of the parts so far
abbrev pub invariant-parts : goal.invariant-parts
invariant-parts l = map Some (map place_view l.places.items) ≡ map place_read (map (λ p. p.now) (take l.part-index l.parts))
