use Rattle.std.proofs.Common.{◌≡◌, ◌+◌, ◌≤◌, ◌++◌, map, length, vec_len, vec_capacity}
use Rattle.std.specs.Vec.Iter.{into_iter_items}
use Rattle.haya_text.specs.Chunks.{chunk_view}
use Rattle.haya_text.specs.Foldable.{foldable_view}
use Rattle.haya_text.proofs.strings.foldable.unfold_all.Given as goal

-- the chunks so far and those that are left, for which there is room
abbrev pub invariant-loop-chunk : goal.invariant-loop-chunk
invariant-loop-chunk l = record {
  all : map chunk_view l.unfolded.items ++ map foldable_view (into_iter_items l.chunk-iterator) ≡ map foldable_view l.fn.items.items;
  room : vec_len l.unfolded + length (into_iter_items l.chunk-iterator) ≤ vec_capacity l.unfolded;
}
