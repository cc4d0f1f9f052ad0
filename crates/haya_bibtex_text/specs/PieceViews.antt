-- Pieces by value.
use Rattle.haya_bibtex_text.specs.Pieces.{RawPiece, text, name}
use Rattle.haya_bibtex_text.specs.declared.pieces.Piece.{Piece}
use Rattle.haya_bibtex_text.specs.declared.pieces.Piece.TheVariants.{Text, Name}

abbrev pub piece_view : Piece → RawPiece
piece_view (Text t) = text t.now
piece_view (Name left n) = name left n.now
