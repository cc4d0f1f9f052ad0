use Rattle.std.proofs.Common.{◌≡◌, flat_map}
use Rattle.std.specs.Prelude.{string_bytes}
use Rattle.haya_questions.specs.Columns.{tsv_char}
use Rattle.haya_questions.proofs.columns.tsv_cell.Given as goal

-- the characters so far are pushed
abbrev pub invariant-characters : goal.invariant-characters
invariant-characters l = string_bytes l.cell ≡ flat_map tsv_char l.yielded
