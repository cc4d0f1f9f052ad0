use Rattle.std.proofs.Common.{◌≡◌, ◌++◌, drop, map}
use Rattle.std.specs.Prelude.{string_bytes}
use Rattle.haya_questions.specs.Columns.{csv_cell}
use Rattle.haya_questions.proofs.columns.csv_line.Given as goal

-- the cells so far and those of what is left are all
abbrev pub invariant-cells : goal.invariant-cells
invariant-cells l =
    map string_bytes l.quoted.items ++ map csv_cell (map string_bytes (drop l.cell-index l.cells)) ≡ map csv_cell (map string_bytes l.cells)
