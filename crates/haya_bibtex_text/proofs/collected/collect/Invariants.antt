use Rattle.std.proofs.Common.{length, map}
use Rattle.haya_bibtex_text.specs.BibliographyViews.{entry_view, note_view}
use Rattle.haya_bibtex_text.specs.Definitions.{strings_view}
use Rattle.haya_bibtex_text.specs.Names.{names_view}
use Rattle.haya_bibtex_text.proofs.Collecting.{Collected}
use Rattle.haya_bibtex_text.proofs.collected.collect.Given as goal

abbrev pub invariant-items : goal.invariant-items
invariant-items l =
    Collected l.text l.left (strings_view l.strings) (names_view l.keys) l.room (map entry_view l.found.entries.items) (map note_view l.found.passed_over.items)

abbrev pub decreases-items : goal.decreases-items
decreases-items l = length l.left
