use Rattle.haya_bibtex_values.proofs.Passing.{next_piece}
use Rattle.haya_bibtex_values.specs.Standing.{standing}
use Rattle.haya_bibtex_values.proofs.standing.standing.Goals as goal

pub pieces-preserved : goal.pieces-preserved
pieces-preserved c =
    next_piece (standing c.args.text.now) c.pieces.chars.items c.in-Some.first.now c.in-Some.rest.now c.behind-left.result.now c.push_sign.new.chars.items c.piece_at-piece.result
    (rw c.in-Some.ensures.cases.0 at c.pieces.invariant) c.piece_at-piece.ensures c.in_ok-push_sign.ensures c.behind-left.ensures.rest
