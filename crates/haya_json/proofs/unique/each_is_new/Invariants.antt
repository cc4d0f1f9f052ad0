use Rattle.std.proofs.Common.{ℕ, ◌<◌}
use Rattle.json.proofs.Unique.Keys.{DifferAt}
use Rattle.haya_json.proofs.unique.each_is_new.Given as goal

-- no two of the names that were looked at are equal
abbrev pub invariant-names : goal.invariant-names
invariant-names l = (j k : ℕ) → j < k → k < l.at → DifferAt l.names j k
