use Rattle.std.proofs.Common.{◌≡◌, ◌++◌, flat_map}
use Rattle.std.specs.Prelude.{string_bytes}
use Rattle.haya_questions.specs.Columns.{csv_char}
use Rattle.haya_questions.proofs.columns.push_doubled.Given as goal

-- the characters so far are pushed
abbrev pub invariant-characters : goal.invariant-characters
invariant-characters l = string_bytes l.cell ≡ string_bytes l.fn.cell ++ flat_map csv_char l.yielded
