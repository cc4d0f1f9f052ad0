use Rattle.std.proofs.Common.{◌≡◌, ◌++◌, drop, map}
use Rattle.std.specs.Prelude.{string_bytes}
use Rattle.haya_questions.specs.Columns.{rows}
use Rattle.haya_questions.specs.Place.{place_view}
use Rattle.haya_questions.proofs.columns.columns_text.Given as goal

-- the rows so far and those of what is left are all
abbrev pub invariant-hits : goal.invariant-hits
invariant-hits l =
    string_bytes l.text ++ rows l.table (map place_view l.places) (drop l.hit-index l.hits)
    ≡ string_bytes l.initial.text ++ rows l.table (map place_view l.places) l.hits
