use Rattle.std.proofs.Common.{ℕ, ◌+◌, ◌<◌}
use Rattle.json.proofs.Unique.Keys.{DifferAt}
use Rattle.haya_json.proofs.unique.neighbours_differ.Given as goal

-- the names that were looked at differ from the one before
abbrev pub invariant-names : goal.invariant-names
invariant-names l = (k : ℕ) → k + 1 < l.at → DifferAt l.names k (k + 1)
