use Rattle.std.proofs.Common.{rules, ◌≡◌, true, false, [], ◌∷◌, ◌++◌, length, map, None, is_some, sym, ap, ◌∙◌, subst}
use Rattle.std.specs.Prelude.{option_and_then}
use Rattle.std.specs.Vec.Iter.{into_iter_items}
use Rattle.haya_questions.specs.Place.{place_view}
use Rattle.haya_asked.specs.Alike.{first_values, is_like}
use Rattle.haya_asked.specs.Firsts.{firsts}
use Rattle.haya_asked.specs.Seen.{place_of}
use Rattle.haya_asked.proofs.FirstsLemmas.{has_like, others, start, step_in, step_out}
use Rattle.haya_asked.proofs.PlaceLemmas.{again, found, like-same, more, position-any, place_in}
use Rattle.haya_asked.proofs.uniques.unique_hits.Goals as goal

pub hits-init : goal.hits-init
hits-init c =
    let places = map place_view c.args.places.now in
    record {
      hits = start (is_like places) c.in_ok-kept.kept.items c.args.hits.items (into_iter_items c.into_iter-hit-iterator.result) c.in_ok-kept.ensures.items (search rules);
      seen = λ values. c.new-seen.ensures values ∙ sym (ap (λ kept. place_in (first_values places) kept values) c.in_ok-kept.ensures.items);
    }

pub hits-preserved-in_ok-push : goal.hits-preserved-in_ok-push
hits-preserved-in_ok-push c =
    let places = map place_view c.args.places.now in
    let kept = c.hits.kept.items in
    let hit = c.in-Some.hit in
    let rest = into_iter_items c.next.new.self in
    let before = c.in_ok-earlier_place.ensures.before in
    let none : c.in_ok-earlier_place.field-0 ≡ None = search rules in
    let new : has_like (is_like places) kept hit ≡ false =
    sym (position-any (is_like places hit) 0 kept) ∙ ap is_some (sym (found (first_values places) (place_of c.hits.seen) kept c.hits.invariant.seen hit)) ∙ ap is_some (sym before) ∙ ap is_some none in
    let split : into_iter_items c.hits.hit-iterator ≡ hit ∷ rest = search rules in
    let len : c.len-place.result ≡ length kept = search rules in
    let pushed : c.push.new.self.items ≡ kept ++ hit ∷ [] = c.in_ok-push.ensures.items in
    record {
      hits = subst (λ ks. ks ++ others (is_like places) ks (firsts (is_like places) rest) ≡ firsts (is_like places) c.args.hits.items) (sym pushed)
          (step_in (is_like places) kept c.args.hits.items (into_iter_items c.hits.hit-iterator) rest hit new split c.hits.invariant.hits);
      seen = λ values. c.in_ok-earlier_place.ensures.after values ∙ more (first_values places) (place_of c.hits.seen) kept c.hits.invariant.seen hit c.len-place.result len values
          ∙ sym (ap (λ ks. place_in (first_values places) ks values) pushed);
    }

pub hits-preserved : goal.hits-preserved
hits-preserved c =
    let places = map place_view c.args.places.now in
    let kept = c.hits.kept.items in
    let hit = c.in-Some.hit in
    let rest = into_iter_items c.next.new.self in
    let before = c.in_ok-earlier_place.ensures.before in
    let some : is_some c.in_ok-earlier_place.field-0 ≡ true = search rules in
    let earlier : is_some (option_and_then (place_of c.hits.seen) (first_values places hit)) ≡ true = ap is_some (sym before) ∙ some in
    let old : has_like (is_like places) kept hit ≡ true =
    sym (position-any (is_like places hit) 0 kept) ∙ ap is_some (sym (found (first_values places) (place_of c.hits.seen) kept c.hits.invariant.seen hit)) ∙ earlier in
    let split : into_iter_items c.hits.hit-iterator ≡ hit ∷ rest = search rules in
    record {
      hits = step_out (is_like places) (like-same (first_values places)) kept c.args.hits.items (into_iter_items c.hits.hit-iterator) rest hit old split c.hits.invariant.hits;
      seen = λ values. c.in_ok-earlier_place.ensures.after values ∙ again (first_values places) (place_of c.hits.seen) kept c.hits.invariant.seen hit c.len-place.result earlier values;
    }
