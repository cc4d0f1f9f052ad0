use Rattle.std.proofs.Common.{◌≡◌, ◌++◌, drop, map}
use Rattle.haya_bibtex_inherited.specs.Inherited.{passed_over_from}
use Rattle.haya_bibtex_inherited.specs.Lists.{have_same_rank}
use Rattle.haya_bibtex_inherited.specs.Sources.{all_sources_view}
use Rattle.haya_bibtex_inherited.specs.Views.{reference_view}
use Rattle.haya_bibtex_inherited.proofs.library.passed_over.Given as goal

-- those so far, and those of the entries that are left, are those of all
abbrev pub invariant-places : goal.invariant-places
invariant-places l =
    map reference_view l.passed_over.items ++ passed_over_from (have_same_rank l.ranks) l.place (drop l.place (all_sources_view l.all))
    ≡ passed_over_from (have_same_rank l.ranks) 0 (all_sources_view l.all)
