use Rattle.std.proofs.Common.{◌≡◌, ◌++◌, drop, map, string_bytes}
use Rattle.std.specs.Prelude.{option_map}
use Rattle.haya_questions.specs.Place.{place_view}
use Rattle.haya_asked.specs.Alike.{first_values}
use Rattle.haya_asked.proofs.values.first_values.Given as goal

-- the values so far and those at what is left of the places are all
abbrev pub invariant-places : goal.invariant-places
invariant-places l =
    option_map (λ values. map string_bytes l.firsts.items ++ values) (first_values (map place_view (drop l.place-index l.places)) l.hit)
    ≡ first_values (map place_view l.places) l.hit
