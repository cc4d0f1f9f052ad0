use Rattle.std.proofs.Common.{◌≡◌, drop}
use Rattle.std.specs.List.{flat_map}
use Rattle.haya_bibtex_inherited.specs.FieldNames.{KnowsNames}
use Rattle.haya_bibtex_inherited.specs.Inherited.{kept_field, with_fields}
use Rattle.haya_bibtex_inherited.specs.Views.{fields_view}
use Rattle.haya_bibtex_inherited.proofs.field.add_kept.Given as goal

-- the fields so far, with those that are left, are those with all
abbrev pub invariant-given : goal.invariant-given
invariant-given l = record {
  knows : KnowsNames l.fields;
  fields : with_fields (fields_view l.fields.list.items) (flat_map (kept_field l.changes l.dated) (fields_view (drop l.field-index l.given)))
      ≡ with_fields (fields_view l.fn.fields.list.items) (flat_map (kept_field l.changes l.dated) (fields_view l.given));
}
