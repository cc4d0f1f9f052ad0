use Rattle.std.proofs.Common.{◌≡◌, None, Some, sym, arith}
use Rattle.haya_bibtex_text.specs.PieceViews.{piece_view}
use Rattle.haya_bibtex_text.specs.Values.{behind_joint, no_piece}
use Rattle.haya_bibtex_text.proofs.Lists.{map_one}
use Rattle.haya_bibtex_text.proofs.PieceByPiece.{fails_next, value_last, value_next}
use Rattle.haya_bibtex_text.proofs.values.read_pieces.Goals as goal

pub returns-in-Err-clause-fault : goal.returns-in-Err-clause-fault
returns-in-Err-clause-fault c = c.pieces.invariant.fault _ (no_piece c.in-Err.ensures.fault)

pub pieces-preserved : goal.pieces-preserved
pieces-preserved c =
    let joint : behind_joint c.in-Ok.read.1.now ≡ Some c.in-Some.next.now =
    rw c.behind_blank-rest.ensures.left at (sym c.in-Some.ensures.left) in
    record {
      value = value_next _ _ _ _ _ _ _ _ c.pieces.invariant.value c.in-Ok.ensures.ok joint
          (map_one piece_view _ _ _ c.in_ok-push.ensures.items);
      fault = fails_next _ _ _ _ _ _ c.pieces.invariant.fault c.in-Ok.ensures.ok joint;
      shorter = omega (arith, c.in-Some.ensures.shorter, c.behind_blank-rest.ensures.shorter, c.in-Ok.ensures.shorter, c.pieces.invariant.shorter);
    }

pub returns-in-None-clause-ok : goal.returns-in-None-clause-ok
returns-in-None-clause-ok c =
    let joint : behind_joint c.in-Ok.read.1.now ≡ None =
    rw c.behind_blank-rest.ensures.left at (sym c.in-None.ensures.left) in
    value_last _ _ _ _ _ _ _ _ c.pieces.invariant.value c.in-Ok.ensures.ok joint
    c.behind_blank-rest.ensures.left (map_one piece_view _ _ _ c.in_ok-push.ensures.items)
