use Rattle.std.proofs.Common.{◌≡◌, ◌++◌}
use Rattle.hayagriva_c.specs.Writing.{lines_text}
use Rattle.hayagriva_c.proofs.writing.lines_of.Given as goal

-- the lines so far and those of the entries that are left are those of all
abbrev pub invariant-entries : goal.invariant-entries
invariant-entries l = l.lines.items ++ lines_text l.entry-iterator ≡ lines_text l.shelf.library
