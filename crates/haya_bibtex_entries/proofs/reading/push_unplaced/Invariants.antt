use Rattle.std.proofs.Common.{◌≡◌, ◌++◌, drop, map, string_bytes}
use Rattle.haya_bibtex_inherited.specs.Views.{fields_view}
use Rattle.haya_bibtex_entries.specs.Entries.{unplaced_of}
use Rattle.haya_bibtex_entries.proofs.reading.push_unplaced.Given as goal

-- the names so far, and those of the fields that are left, are all
abbrev pub invariant-fields : goal.invariant-fields
invariant-fields l =
    map string_bytes l.names.items ++ unplaced_of l.kind (fields_view l.fields) (fields_view (drop l.field-index l.field-items))
    ≡ map string_bytes l.fn.names.items ++ unplaced_of l.kind (fields_view l.fields) (fields_view l.fields)
