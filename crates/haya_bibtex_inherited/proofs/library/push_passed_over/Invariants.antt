use Rattle.std.proofs.Common.{◌≡◌, ◌++◌, drop, map}
use Rattle.std.specs.Prelude.{filter}
use Rattle.haya_bibtex_inherited.specs.Inherited.{is_passed_over, reference_of}
use Rattle.haya_bibtex_inherited.specs.Lists.{have_same_rank}
use Rattle.haya_bibtex_inherited.specs.Sources.{sources_view}
use Rattle.haya_bibtex_inherited.specs.Views.{reference_view}
use Rattle.haya_bibtex_inherited.proofs.library.push_passed_over.Given as goal

-- those so far, and those of the sources that are left, are those of all
abbrev pub invariant-sources : goal.invariant-sources
invariant-sources l =
    let p = is_passed_over (have_same_rank l.ranks) l.place in
    map reference_view l.passed_over.items ++ map reference_of (filter p (sources_view (drop l.source-index l.sources)))
    ≡ map reference_view l.fn.passed_over.items ++ map reference_of (filter p (sources_view l.sources))
