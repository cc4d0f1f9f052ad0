use Rattle.std.proofs.Common.{◌≡◌, length}
use Rattle.haya_source_stream.proofs.reading.line_count.Given as goal

abbrev pub invariant-lines : goal.invariant-lines
invariant-lines l = l.count ≡ length l.yielded
