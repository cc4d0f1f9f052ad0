-- The tables that are printed of hits.
use Rattle.std.specs.Prelude.{ℕ, List, [], ◌++◌, if◌then◌else◌, map}
use Rattle.hayagriva.specs.declared.query.Hit.{Hit}
use Rattle.haya_questions.specs.Columns.{header, rows}
use Rattle.haya_questions.specs.Place.{place_view}
use Rattle.haya_asked.specs.declared.columns.Columns.{Columns}

-- a row of the places' names, where it is wanted, and one for each hit
abbrev pub columns_text : Columns → List Hit → List ℕ
columns_text columns hits =
    let places = map place_view columns.places.items in
    (if columns.has_header then header columns.table places else [])
    ++ rows columns.table places hits
