use Rattle.std.proofs.Common.{map, arith, rules}
use Rattle.std.proofs.lemmas.Grind.{common_steps}
use Rattle.haya_bibtex_text.specs.Definitions.{strings_view}
use Rattle.haya_bibtex_text.specs.FieldViews.{field_view}
use Rattle.haya_bibtex_text.specs.Uses.{field_uses}
use Rattle.haya_bibtex_text.proofs.Spending.{turn_on, turn_stops}
use Rattle.haya_bibtex_text.proofs.UsesLeft.{of_fields}
use Rattle.haya_bibtex_text.proofs.resolved.filled_fields.Goals as goal

pub returns-in-Err-clause-room : goal.returns-in-Err-clause-room
returns-in-Err-clause-room c =
    turn_stops _ _ _ (field_uses (strings_view c.args.strings.now) (map field_view c.args.written.now)) c.fields.room c.args.room.now
    (of_fields (strings_view c.args.strings.now) c.args.written.now c.fields.field-index c.field-item.result c.fields-test.true c.field-item.is)
    c.fields.invariant.room c.in-Err.stop c.in-Err.ensures.room

pub fields-preserved : goal.fields-preserved
fields-preserved c = record {
  fields = first_of (search rules, grind (arith, common_steps));
  unknown = first_of (search rules, grind (arith, common_steps));
  room = turn_on _ _ _ (field_uses (strings_view c.args.strings.now) (map field_view c.args.written.now)) c.fields.room c.push_filled.new.room c.args.room.now
      (of_fields (strings_view c.args.strings.now) c.args.written.now c.fields.field-index c.field-item.result c.fields-test.true c.field-item.is)
      c.fields.invariant.room c.in-Ok.ensures.room;
}
