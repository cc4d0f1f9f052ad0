use Rattle.std.proofs.Common.{◌≡◌, ℕ, List, ◌++◌, map}
use Rattle.std.specs.Vec.Iter.{into_iter_items}
use Rattle.haya_questions.specs.Place.{place_view}
use Rattle.haya_asked.specs.Alike.{first_values, is_like}
use Rattle.haya_asked.specs.Firsts.{firsts}
use Rattle.haya_asked.specs.Seen.{place_of}
use Rattle.haya_asked.proofs.FirstsLemmas.{others}
use Rattle.haya_asked.proofs.PlaceLemmas.{place_in}
use Rattle.haya_asked.proofs.uniques.unique_hits.Given as goal

-- what is kept so far, and the others of what is left, are the firsts; the values that were seen are those of what is kept
abbrev pub invariant-hits : goal.invariant-hits
invariant-hits l = record {
  hits :
      l.kept.items ++ others (is_like (map place_view l.places)) l.kept.items (firsts (is_like (map place_view l.places)) (into_iter_items l.hit-iterator))
      ≡ firsts (is_like (map place_view l.places)) l.fn.hits.items;
  seen : (values : List (List ℕ)) → place_of l.seen values ≡ place_in (first_values (map place_view l.places)) l.kept.items values;
}
