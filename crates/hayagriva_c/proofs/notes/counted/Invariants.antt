use Rattle.std.proofs.Common.{◌≡◌, ◌++◌}
use Rattle.haya_json.specs.Notes.{notes_view}
use Rattle.hayagriva_c.specs.Noted.{noted}
use Rattle.hayagriva_c.proofs.notes.counted.Given as goal

-- the rows so far and the names that are left are all
abbrev pub invariant-names : goal.invariant-names
invariant-names l = noted l.rows.items ++ l.row-iterator ≡ (notes_view l.notes).counts
