use Rattle.std.proofs.Common.{◌≡◌, drop, map, string_bytes}
use Rattle.haya_json.specs.Notes.{all_kept, notes_view}
use Rattle.haya_bibtex.specs.Libraries.{names_told}
use Rattle.haya_bibtex.proofs.notes.tell_names.Given as goal

-- what is kept so far, after the names left, is what is kept after all
abbrev pub invariant-names : goal.invariant-names
invariant-names l =
    all_kept (names_told l.key (map string_bytes (drop l.name-index l.names))) (notes_view l.notes)
    ≡ all_kept (names_told l.key (map string_bytes l.names)) (notes_view l.fn.notes)
