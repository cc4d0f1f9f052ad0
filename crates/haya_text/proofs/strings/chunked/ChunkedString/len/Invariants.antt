use Rattle.std.proofs.Common.{◌≡◌, take, min, sum_by, length, map, ◌-◌, ◌^◌}
use Rattle.haya_text.specs.Chunks.{chunk_view}
use Rattle.haya_text.proofs.strings.chunked.ChunkedString.len.Given as goal

-- the sum so far
abbrev pub invariant-loop-chunk : goal.invariant-loop-chunk
invariant-loop-chunk l = l.bytes ≡ min (sum_by (λ c. length c.0) (map chunk_view (take l.chunk-index l.chunk-items))) (2 ^ 64 - 1)
