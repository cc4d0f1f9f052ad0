use Rattle.std.specs.Io.KnownBytes.{Consumes}
use Rattle.haya_line_stream.proofs.input.read_all.Given as goal

-- what was read so far is what the reader has given
abbrev pub invariant-reads : goal.invariant-reads
invariant-reads g l = Consumes (g.R.Read.remaining l.fn.reader) (g.R.Read.remaining l.reader) l.bytes.items
