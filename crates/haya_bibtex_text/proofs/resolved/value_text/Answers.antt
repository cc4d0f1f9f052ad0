use Rattle.std.proofs.Common.{map, refl, arith, rules}
use Rattle.std.proofs.lemmas.Grind.{common_steps}
use Rattle.std.proofs.lemmas.Str.{chars-nil}
use Rattle.haya_bibtex_text.specs.Definitions.{strings_view}
use Rattle.haya_bibtex_text.specs.PieceViews.{piece_view}
use Rattle.haya_bibtex_text.specs.Uses.{value_uses}
use Rattle.haya_bibtex_text.proofs.Spending.{turn_on, turn_stops}
use Rattle.haya_bibtex_text.proofs.UsesLeft.{of_value}
use Rattle.haya_bibtex_text.proofs.resolved.value_text.Goals as goal

pub pieces-init : goal.pieces-init
pieces-init c = record { text = rw (c.new-text.ensures.bytes, chars-nil) refl; unknown = refl; room = refl }

pub returns-in-Err-clause-room : goal.returns-in-Err-clause-room
returns-in-Err-clause-room c =
    turn_stops _ _ _ (value_uses (strings_view c.args.strings.now) (map piece_view c.args.value.now)) c.pieces.room c.args.room.now
    (of_value (strings_view c.args.strings.now) c.args.value.now c.pieces.piece-index _ c.pieces-test.true)
    c.pieces.invariant.room c.in-Err.stop c.in-Err.ensures.room

pub pieces-preserved : goal.pieces-preserved
pieces-preserved c = record {
  text = first_of (search rules, grind (arith, common_steps));
  unknown = first_of (search rules, grind (arith, common_steps));
  room = turn_on _ _ _ (value_uses (strings_view c.args.strings.now) (map piece_view c.args.value.now)) c.pieces.room c.push_piece.new.room c.args.room.now
      (of_value (strings_view c.args.strings.now) c.args.value.now c.pieces.piece-index _ c.pieces-test.true)
      c.pieces.invariant.room c.in-Ok.ensures.room;
}
