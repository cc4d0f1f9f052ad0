use Rattle.std.proofs.Common.{◌≡◌, ◌++◌, drop, map}
use Rattle.std.specs.Prelude.{string_bytes}
use Rattle.haya_questions.specs.Columns.{tsv_cell}
use Rattle.haya_questions.proofs.columns.tsv_line.Given as goal

-- the cells so far and those of what is left are all
abbrev pub invariant-cells : goal.invariant-cells
invariant-cells l =
    map string_bytes l.escaped.items ++ map tsv_cell (map string_bytes (drop l.cell-index l.cells)) ≡ map tsv_cell (map string_bytes l.cells)
