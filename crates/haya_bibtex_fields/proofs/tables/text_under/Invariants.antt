use Rattle.std.proofs.Common.{◌≡◌, drop, map}
use Rattle.haya_bibtex_fields.specs.Tables.{row_view, text_under}
use Rattle.haya_bibtex_fields.proofs.tables.text_under.Given as goal

-- the name is found where it is in the rest of the table
abbrev pub invariant-rows : goal.invariant-rows
invariant-rows l = text_under (map row_view l.table) l.name ≡ text_under (map row_view (drop l.key-index l.table)) l.name
