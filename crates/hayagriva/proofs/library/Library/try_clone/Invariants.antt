use Rattle.std.proofs.Common.{◌≡◌, ◌++◌}
use Rattle.hayagriva.proofs.library.Library.try_clone.Given as goal

-- the copies, and what is left to copy
abbrev pub invariant-loop-entry : goal.invariant-loop-entry
invariant-loop-entry l = l.copy ++ l.entry-iterator ≡ l.self
