use Rattle.std.proofs.Common.{◌≡◌, map, arith, rules}
use Rattle.std.proofs.lemmas.Grind.{common_steps}
use Rattle.haya_bibtex_text.specs.Definitions.{strings_view}
use Rattle.haya_bibtex_text.specs.FieldViews.{field_view}
use Rattle.haya_bibtex_text.specs.Strings.{with_definition}
use Rattle.haya_bibtex_text.specs.Uses.{definition_uses}
use Rattle.haya_bibtex_text.proofs.Spending.{turn_on, turn_stops}
use Rattle.haya_bibtex_text.proofs.UsesLeft.{of_definitions}
use Rattle.haya_bibtex_text.proofs.collected.define_all.Goals as goal

pub returns-in-Err-clause-room : goal.returns-in-Err-clause-room
returns-in-Err-clause-room c =
    turn_stops _ _ _ (definition_uses (strings_view c.args.strings.now) (map field_view c.args.fields.now)) c.fields.room c.args.room.now
    (of_definitions (strings_view c.fields.strings) c.args.fields.now c.fields.field-index c.field-item.result c.fields-test.true c.field-item.is)
    c.fields.invariant.room c.in-Err.stop (rw c.as_slice.ensures at c.in-Err.ensures.room)

pub fields-preserved : goal.fields-preserved
fields-preserved c = record {
  strings = first_of (search rules, grind (arith, common_steps));
  notes = first_of (search rules, grind (arith, common_steps));
  room = let defined : strings_view c.define.new.definitions ≡ with_definition (strings_view c.fields.strings) (field_view c.field-item.result) =
      first_of (search rules, grind (arith, common_steps)) in
      rw defined (turn_on _ _ _ (definition_uses (strings_view c.args.strings.now) (map field_view c.args.fields.now)) c.fields.room c.value_text.new.room c.args.room.now
      (of_definitions (strings_view c.fields.strings) c.args.fields.now c.fields.field-index c.field-item.result c.fields-test.true c.field-item.is)
      c.fields.invariant.room (rw c.as_slice.ensures at c.in-Ok.ensures.room));
}
