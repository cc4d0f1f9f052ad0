use Rattle.std.proofs.Common.{map, take}
use Rattle.std.specs.Fmt.{HasWritten, IsPlainFormatter}
use Rattle.haya_text.specs.Chunks.{chunk_view}
use Rattle.haya_text.specs.Printing.{text_display}
use Rattle.haya_text.proofs.strings.printing.ChunkedStringDisplay.fmt.Given as goal

-- the chunks so far are written
abbrev pub invariant-loop-chunk : goal.invariant-loop-chunk
invariant-loop-chunk g l =
    IsPlainFormatter l.initial.f → HasWritten g.W.Write.write_str_gives l.initial.f (text_display (map chunk_view (take l.chunk-index l.chunk-items))) l.f
