use Rattle.std.proofs.Common.{◌≡◌, ℕ, List, ◌++◌, map}
use Rattle.std.specs.List.{position_from}
use Rattle.std.specs.Prelude.{All}
use Rattle.std.specs.Vec.Iter.{into_iter_items}
use Rattle.haya_questions.specs.Place.{place_view}
use Rattle.haya_asked.specs.Alike.{first_values, is_like}
use Rattle.haya_asked.specs.Seen.{place_of}
use Rattle.haya_asked.proofs.PlaceLemmas.{place_in}
use Rattle.haya_asked.proofs.duplicates.placed_hits.Given as goal

-- the hits so far and what is left are all; each so far has its first place; the values that were seen are theirs
abbrev pub invariant-hits : goal.invariant-hits
invariant-hits l = record {
  hits : map (λ p. p.hit) l.placed.items ++ into_iter_items l.hit-iterator ≡ l.fn.hits.items;
  firsts : All (λ p. p.first ≡ position_from (is_like (map place_view l.places) p.hit) 0 l.fn.hits.items) l.placed.items;
  seen : (values : List (List ℕ)) → place_of l.seen values ≡ place_in (first_values (map place_view l.places)) (map (λ p. p.hit) l.placed.items) values;
}
