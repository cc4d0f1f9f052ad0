use Rattle.std.proofs.Common.{◌≡◌, ℕ, ◌<◌, [], sym, ◌∙◌, ap, All, map, arith, rules, List, length, slice_index_or, string_bytes}
use Rattle.std.proofs.lemmas.List.{get_or-map, length-map}
use Rattle.std.proofs.lemmas.List.Elements.{All-map}
use Rattle.haya_text.specs.declared.strings.chunk.StringChunk.{StringChunk}
use Rattle.haya_text.specs.Chunks.{Chunk, chunk_view}
use Rattle.haya_text.proofs.strings.chunked.ChunkedString.is_empty.Goals as goal

without_text : (xs : List StringChunk) (k : ℕ) (d : StringChunk) → k < length xs → All (λ c. c.0 ≡ []) (map chunk_view xs) → string_bytes (slice_index_or xs k d).value ≡ []
without_text xs k d lt all = ap (λ (c : Chunk). c.0) (sym (get_or-map chunk_view xs k d (chunk_view d) lt)) ∙ all k (chunk_view d) (rw length-map lt)

pub returns-then-not-is_empty : goal.returns-then-not-is_empty
returns-then-not-is_empty c =
    let text : (All (λ (x : Chunk). x.0 ≡ []) (map chunk_view c.deref-chunk-items.result.now)) → string_bytes c.chunk-item.result.value ≡ [] = λ all. rw c.chunk-item.is (without_text c.deref-chunk-items.result.now c.loop-chunk.chunk-index c.chunk-item.result c.loop-chunk-test.true all) in
    rw (← c.deref-chunk-items.ensures.value) (search rules, λ all. let h = text all in search (rules, h))

pub returns : goal.returns
returns c = rw (← c.deref-chunk-items.ensures.value) (λ _. All-map (λ (x : Chunk). x.0 ≡ []) chunk_view c.deref-chunk-items.result.now (λ k d lt. c.loop-chunk.invariant k d (omega arith)), search rules)
