use Rattle.std.proofs.Common.{◌≡◌, ◌++◌, drop, map}
use Rattle.std.specs.Prelude.{string_bytes}
use Rattle.haya_entry.specs.Tree.{trees, view}
use Rattle.haya_printing.specs.Printed.{all_lines_text}
use Rattle.haya_printing.proofs.lines.+lines.Given as goal

-- what is pushed and what is left are what was pushed and all
abbrev pub invariant-push_parents-parents : goal.invariant-push_parents-parents
invariant-push_parents-parents l =
    string_bytes l.lines ++ all_lines_text l.depth (trees (map view (drop l.parent-index l.parents)))
    ≡ string_bytes l.initial.lines ++ all_lines_text l.depth (trees (map view l.parents))
