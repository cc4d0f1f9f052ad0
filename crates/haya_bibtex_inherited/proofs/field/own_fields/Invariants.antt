use Rattle.std.proofs.Common.{◌≡◌, map, take}
use Rattle.haya_bibtex_inherited.specs.FieldNames.{KnowsNames}
use Rattle.haya_bibtex_inherited.specs.Views.{field_bytes, fields_view}
use Rattle.haya_bibtex_inherited.proofs.field.own_fields.Given as goal

abbrev pub invariant-own : goal.invariant-own
invariant-own l = record {
  knows : KnowsNames l.fields;
  fields : fields_view l.fields.list.items ≡ map field_bytes (take l.field-index l.own);
}
