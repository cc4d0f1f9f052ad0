use Rattle.std.proofs.Common.{◌≡◌, [], drop, map}
use Rattle.haya_bibtex_text.specs.BibliographyViews.{note_view}
use Rattle.haya_json.specs.Notes.{all_kept, notes_view}
use Rattle.haya_bibtex.specs.Libraries.{names_told, note_name}
use Rattle.haya_bibtex.proofs.notes.tell_text.Given as goal

-- what is kept so far, after what is left, is what is kept after all
abbrev pub invariant-passed_over : goal.invariant-passed_over
invariant-passed_over l =
    all_kept (names_told [] (map note_name (map note_view (drop l.one-index l.passed_over)))) (notes_view l.notes)
    ≡ all_kept (names_told [] (map note_name (map note_view l.passed_over))) (notes_view l.fn.notes)
