use Rattle.std.proofs.Common.{◌≤◌, length, take}
use Rattle.std.specs.Io.KnownBytes.{Consumes}
use Rattle.haya_formats.proofs.block.read_block.Given as goal

-- what was read is in front of the block
abbrev pub invariant-reads : goal.invariant-reads
invariant-reads g l = (l.filled ≤ length l.block) × Consumes (g.R.Read.remaining l.fn.reader) (g.R.Read.remaining l.reader) (take l.filled l.block)
