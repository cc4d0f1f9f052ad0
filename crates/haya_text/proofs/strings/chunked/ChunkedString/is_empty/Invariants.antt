use Rattle.std.proofs.Common.{◌≡◌, [], ◌<◌, ℕ, slice_index_or, string_bytes}
use Rattle.haya_text.specs.declared.strings.chunk.StringChunk.{StringChunk}
use Rattle.haya_text.proofs.strings.chunked.ChunkedString.is_empty.Given as goal

-- no chunk so far has a text
abbrev pub invariant-loop-chunk : goal.invariant-loop-chunk
invariant-loop-chunk l = (k : ℕ) (d : StringChunk) → k < l.chunk-index → string_bytes (slice_index_or l.chunk-items k d).value ≡ []
