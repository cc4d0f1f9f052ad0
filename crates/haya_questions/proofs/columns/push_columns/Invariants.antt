use Rattle.std.proofs.Common.{◌≡◌, ◌++◌, drop, map}
use Rattle.std.specs.Prelude.{string_bytes}
use Rattle.haya_questions.specs.Columns.{cell}
use Rattle.haya_questions.specs.Place.{place_view}
use Rattle.haya_questions.proofs.columns.push_columns.Given as goal

-- the cells so far and those of what is left are all
abbrev pub invariant-places : goal.invariant-places
invariant-places l =
    map string_bytes l.cells.items ++ map (cell l.hit) (map place_view (drop l.place-index l.places)) ≡ map (cell l.hit) (map place_view l.places)
