use Rattle.std.proofs.Common.{subst, sym}
use Rattle.haya_numbers.specs.Pieces.{AreItsPieces}
use Rattle.haya_numbers.proofs.PieceLaws.{AreItsPieces-pieces, pieces-only}
use Rattle.haya_numbers.proofs.laws.pages.pieces.Goals as goal

pub returns : goal.returns
returns c = λ text ps. (pieces-only text ps, λ e. subst (AreItsPieces text) (sym e) (AreItsPieces-pieces text))
