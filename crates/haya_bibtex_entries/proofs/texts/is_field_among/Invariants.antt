use Rattle.std.proofs.Common.{◌≡◌, drop, map}
use Rattle.haya_bibtex_inherited.specs.Entries.{has_field}
use Rattle.haya_bibtex_inherited.specs.Views.{field_view}
use Rattle.haya_bibtex_entries.proofs.texts.is_field_among.Given as goal

-- a field has the name where one of those that are left has it
abbrev pub invariant-fields : goal.invariant-fields
invariant-fields l =
    has_field (map field_view (drop l.field-index l.fields)) l.name ≡ has_field (map field_view l.fields) l.name
