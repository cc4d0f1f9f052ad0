use Rattle.std.proofs.Common.{◌≤◌, ◌++◌, List, ℕ, length, map}
use Rattle.haya_bibtex_text.specs.Pieces.{RawPiece}
use Rattle.haya_bibtex_text.specs.PieceViews.{piece_view}
use Rattle.haya_bibtex_text.specs.Values.{FailsValue, IsValue}
use Rattle.haya_bibtex_text.specs.declared.fault.Refusal.{Refusal}
use Rattle.haya_bibtex_text.proofs.values.read_pieces.Given as goal

-- the pieces so far and those of what is left are the value's, and the fault of what is left is its
abbrev pub invariant-pieces : goal.invariant-pieces
invariant-pieces l = record {
  value : (ps : List RawPiece) (rest : List ℕ) → IsValue l.entry l.left ps rest →
      IsValue l.entry l.text (map piece_view l.pieces.items ++ ps) rest;
  fault : (f : Refusal) → FailsValue l.entry l.left f → FailsValue l.entry l.text f;
  shorter : length l.left ≤ length l.text;
}

abbrev pub decreases-pieces : goal.decreases-pieces
decreases-pieces l = length l.left
