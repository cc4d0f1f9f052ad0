use Rattle.std.proofs.Common.{◌≡◌, [], drop, map}
use Rattle.haya_bibtex_inherited.specs.Views.{reference_view}
use Rattle.haya_json.specs.Notes.{all_kept, notes_view}
use Rattle.haya_bibtex.specs.Libraries.{names_told, reference_name}
use Rattle.haya_bibtex.proofs.notes.tell_references.Given as goal

-- what is kept so far, after the references left, is what is kept after all
abbrev pub invariant-references : goal.invariant-references
invariant-references l =
    all_kept (names_told [] (map reference_name (map reference_view (drop l.reference-index l.references)))) (notes_view l.notes)
    ≡ all_kept (names_told [] (map reference_name (map reference_view l.references))) (notes_view l.fn.notes)
