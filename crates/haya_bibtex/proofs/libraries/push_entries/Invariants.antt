use Rattle.std.proofs.Common.{◌≡◌, drop, flat_map, map}
use Rattle.haya_bibtex_inherited.specs.Views.{entry_view}
use Rattle.haya_json.specs.Notes.{all_kept, notes_view}
use Rattle.haya_bibtex.specs.Libraries.{entries_pushed, entry_told}
use Rattle.haya_bibtex.proofs.libraries.push_entries.Given as goal

-- the library so far, after the entries left, is that of all, and so is what is kept
abbrev pub invariant-entries : goal.invariant-entries
invariant-entries l = record {
  library :
      entries_pushed (map entry_view (drop l.entry-index l.entries)) l.library
      ≡ entries_pushed (map entry_view l.entries) l.fn.library;
  notes :
      all_kept (flat_map entry_told (map entry_view (drop l.entry-index l.entries))) (notes_view l.notes)
      ≡ all_kept (flat_map entry_told (map entry_view l.entries)) (notes_view l.fn.notes);
}
