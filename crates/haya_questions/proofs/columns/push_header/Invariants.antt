use Rattle.std.proofs.Common.{◌≡◌, ◌++◌, drop, map}
use Rattle.std.specs.Prelude.{string_bytes}
use Rattle.haya_questions.specs.Place.{place_text, place_view}
use Rattle.haya_questions.proofs.columns.push_header.Given as goal

-- the names so far and those of what is left are all
abbrev pub invariant-places : goal.invariant-places
invariant-places l =
    map string_bytes l.names.items ++ map place_text (map place_view (drop l.place-index l.places)) ≡ map place_text (map place_view l.places)
