use Rattle.std.proofs.Common.{◌≡◌, ◌++◌, drop, map}
use Rattle.haya_bibtex_inherited.specs.Inherited.{entries_with}
use Rattle.haya_bibtex_inherited.specs.Views.{entry_bytes, entry_view}
use Rattle.haya_bibtex_inherited.proofs.Alone.{own}
use Rattle.haya_bibtex_inherited.proofs.library.own_entries.Given as goal

-- those so far, and those of the entries that are left, are those of all
abbrev pub invariant-entries : goal.invariant-entries
invariant-entries l =
    map entry_view l.library.items
    ++ entries_with (map entry_bytes (drop l.entry-index l.entries)) (own (map entry_bytes (drop l.entry-index l.entries)))
    ≡ entries_with (map entry_bytes l.entries) (own (map entry_bytes l.entries))
