use Rattle.std.proofs.Common.{◌≡◌, List, map, ap, sym, ◌∙◌}
use Rattle.haya_bibtex_text.specs.BibliographyViews.{entry_view, note_view}
use Rattle.haya_bibtex_inherited.specs.Views.{entry_bytes, entry_view as found_view, reference_view}
use Rattle.haya_json.proofs.NotesKept.{kept_from_none}
use Rattle.haya_bibtex_text.specs.declared.entry.PassedOver.{PassedOver}
use Rattle.haya_json.specs.Notes.{all_kept, none_kept}
use Rattle.haya_bibtex.specs.Libraries.{all_told, entries_pushed, note_name}
use Rattle.haya_bibtex.specs.Spelled.{entry_spelled}
use Rattle.haya_bibtex.proofs.libraries.library_of.Goals as goal

-- the entries that are found are those of the library, and no others are
pub returns : goal.returns
returns c =
    let same : map entry_spelled (map entry_view c.args.bibliography.now.entries.items) ≡ map entry_bytes c.as_slice-entries.result.now =
    ap (λ es. map entry_spelled (map entry_view es)) (sym c.as_slice-entries.ensures.value) ∙ c.spell_entries.ensures in
    let es = map found_view c.in_ok-found.found.entries.items in
    let rs = map reference_view c.in_ok-found.found.passed_over.items in
    let told = λ (ns : List PassedOver). all_told (map note_name (map note_view ns)) rs es in
    record {
      entries = es;
      references = rs;
      inherits = rw same c.in_ok-found.ensures.is;
      only = λ others references of. c.in_ok-found.ensures.only others references (rw same at of);
      library_is = c.in_ok-fill.ensures.library ∙ ap (entries_pushed es) c.with_hash_keys-library.ensures;
      notes_are = c.in_ok-fill.ensures.notes
          ∙ ap (all_kept (told c.as_slice-passed_over.result.now)) c.with_hash_keys-notes.ensures
          ∙ ap (λ ns. all_kept (told ns) none_kept) c.as_slice-passed_over.ensures.value
          ∙ kept_from_none (told c.args.bibliography.now.passed_over.items);
    }
