use Rattle.std.proofs.Common.{◌≡◌, ◌≤◌, ◌<◌, [], length, map, min, vec_len}
use Rattle.hayagriva.specs.Tree.{view}
use Rattle.haya_line_library.specs.Chain.{chain_rows, left_rows}
use Rattle.haya_line_library.proofs.open_entries.close_to.Given as goal

abbrev pub invariant-closing : goal.invariant-closing
invariant-closing l = record {
  left : min l.depth (length l.chain.items) ≡ min l.depth (length l.fn.chain.items);
  rows : left_rows (map view l.closed.items) (map view l.chain.items) ≡ chain_rows 0 (map view l.fn.chain.items);
  none : 0 < length l.chain.items → l.closed.items ≡ [];
  one : length l.closed.items ≤ 1;
}

abbrev pub decreases-closing : goal.decreases-closing
decreases-closing l = vec_len l.chain
