use Rattle.std.proofs.Common.{◌≡◌, map, take}
use Rattle.haya_bibtex_text.specs.BibliographyViews.{entry_view}
use Rattle.haya_bibtex_inherited.specs.Views.{entry_bytes}
use Rattle.haya_bibtex.specs.Spelled.{entry_spelled}
use Rattle.haya_bibtex.proofs.spelled.spell_entries.Given as goal

-- the entries so far are spelled by their characters
abbrev pub invariant-entries : goal.invariant-entries
invariant-entries l =
    map entry_spelled (map entry_view (take l.entry-index l.entries)) ≡ map entry_bytes (take l.entry-index l.entries)
