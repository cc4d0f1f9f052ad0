use Rattle.std.proofs.Common.{◌≡◌, ◌+◌, ◌≤◌, ◌++◌, false, map, length, vec_len, vec_capacity}
use Rattle.std.specs.Vec.Iter.{into_iter_items}
use Rattle.haya_text.specs.Chunks.{chunk_view}
use Rattle.haya_text.specs.Foldable.{foldable_view, has_math}
use Rattle.haya_text.proofs.strings.foldable.fold_all.Given as goal

-- the chunks so far and those that are left, for which there is room
abbrev pub invariant-loop-chunk : goal.invariant-loop-chunk
invariant-loop-chunk l = record {
  all : map foldable_view l.folded.items ++ map chunk_view (into_iter_items l.chunk-iterator) ≡ map chunk_view l.fn.items.items;
  foldable : has_math (map chunk_view (into_iter_items l.chunk-iterator)) ≡ false;
  room : vec_len l.folded + length (into_iter_items l.chunk-iterator) ≤ vec_capacity l.folded;
}
