use Rattle.std.proofs.Common.{◌≡◌, map, take}
use Rattle.haya_bibtex_inherited.specs.Views.{field_bytes, fields_view}
use Rattle.haya_bibtex_inherited.proofs.field.own_list.Given as goal

-- the references so far are those to the fields so far
abbrev pub invariant-own : goal.invariant-own
invariant-own l = fields_view l.list.items ≡ map field_bytes (take l.field-index l.own)
