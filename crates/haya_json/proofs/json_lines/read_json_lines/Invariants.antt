use Rattle.std.proofs.Common.{◌≡◌, length}
use Rattle.std.specs.Str.Lines.{lines}
use Rattle.haya_json.specs.Notes.{notes_view}
use Rattle.haya_json.proofs.LinesTaken.{LinesTaken}
use Rattle.haya_json.proofs.json_lines.read_json_lines.Given as goal

abbrev pub invariant-lines : goal.invariant-lines
invariant-lines l = record {
  counted : l.number ≡ length l.yielded;
  taken : LinesTaken (lines l.fn.text) l.number l.library (notes_view l.notes);
}
