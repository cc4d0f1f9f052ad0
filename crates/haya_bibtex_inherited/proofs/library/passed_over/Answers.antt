use Rattle.std.proofs.Common.{◌<◌, ◌++◌, length, map, subst, sym, ◌∙◌, ap, List}
use Rattle.std.specs.Prelude.{All, IfSome, filter}
use Rattle.haya_bibtex_inherited.specs.Inherited.{is_passed_over, reference_of}
use Rattle.haya_bibtex_inherited.specs.Lists.{have_same_rank}
use Rattle.haya_bibtex_inherited.specs.Sources.{sources_view}
use Rattle.haya_bibtex_inherited.specs.Views.{reference_view}
use Rattle.haya_bibtex_inherited.specs.declared.source.Source.{Source as FoundSource}
use Rattle.haya_bibtex_inherited.proofs.Filling.{sources_at}
use Rattle.haya_bibtex_inherited.proofs.Making.{passed_from_more}
use Rattle.haya_bibtex_inherited.proofs.library.passed_over.Goals as goal

pub push_passed_over-requires-clause-sources : goal.push_passed_over-requires-clause-sources
push_passed_over-requires-clause-sources c =
    let P = All (λ s. IfSome s.position (λ j. j < length c.args.ranks.now)) in
    subst (λ (ys : List FoundSource). P (sources_view ys)) (sym c.as_slice.ensures.value)
    (sources_at P c.args.all.now c.places.place c.index-all-place.result c.requires.sources c.places-test.true c.index-all-place.is)

pub places-preserved : goal.places-preserved
places-preserved c =
    let back = have_same_rank c.args.ranks.now in
    let next = c.in_ok-push_passed_over.ensures ∙ ap (λ ys. map reference_view c.places.passed_over.items ++ map reference_of (filter (is_passed_over back c.places.place) (sources_view ys))) c.as_slice.ensures.value in
    passed_from_more back _ _ _ c.args.all.now c.places.place c.index-all-place.result c.places-test.true c.index-all-place.is c.places.invariant next
