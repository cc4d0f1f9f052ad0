use Rattle.std.proofs.Common.{List, ℕ, ◌≡◌, ◌++◌}
use Rattle.std.specs.Io.KnownBytes.{Appends}
use Rattle.haya_line_stream.proofs.writing.write_all.Given as goal

-- what is written of the text, and what is left of it
abbrev pub invariant-writes : goal.invariant-writes
invariant-writes g l = (first : List ℕ) × (l.text ≡ first ++ l.rest) × Appends (g.W.Write.contents l.fn.out) (g.W.Write.contents l.out) first
