use Rattle.std.proofs.Common.{rules, ◌≡◌, [], ◌∷◌, ◌++◌, length, map, sym, ap, ◌∙◌, append_assoc, subst}
use Rattle.std.proofs.lemmas.List.{length-map, map-append}
use Rattle.std.proofs.lemmas.List.Elements.{All-push}
use Rattle.std.specs.List.{position_from}
use Rattle.std.specs.Prelude.{All}
use Rattle.std.specs.Vec.Iter.{into_iter_items}
use Rattle.haya_questions.specs.Place.{place_view}
use Rattle.haya_asked.specs.Alike.{first_values, is_like}
use Rattle.haya_asked.specs.Seen.{place_of}
use Rattle.haya_asked.specs.declared.duplicates.PlacedHit.{PlacedHit}
use Rattle.haya_asked.proofs.PlaceLemmas.{more, place_in}
use Rattle.haya_asked.proofs.ShareLemmas.{first}
use Rattle.haya_asked.proofs.duplicates.placed_hits.Goals as goal

pub hits-preserved : goal.hits-preserved
hits-preserved c =
    let places = map place_view c.args.places.now in
    let placed = c.hits.placed.items in
    let kept = map (λ p. p.hit) placed in
    let hit = c.in-Some.hit in
    let rest = into_iter_items c.next.new.self in
    let one : PlacedHit = record { hit = hit; first = c.in_ok-first.first } in
    let split : into_iter_items c.hits.hit-iterator ≡ hit ∷ rest = search rules in
    let pushed : c.push.new.self.items ≡ placed ++ one ∷ [] = c.in_ok-push.ensures.items in
    let len : c.len-in-hits.result ≡ length kept = (let e : c.len-in-hits.result ≡ length placed = search rules in e) ∙ sym (length-map placed (λ p. p.hit)) in
    let whole : c.args.hits.items ≡ kept ++ hit ∷ rest = sym c.hits.invariant.hits ∙ ap (λ r. kept ++ r) split in
    let longer : map (λ p. p.hit) c.push.new.self.items ≡ kept ++ hit ∷ [] = ap (map (λ p. p.hit)) pushed ∙ map-append (λ p. p.hit) placed (one ∷ []) in
    record {
      hits = ap (λ m. m ++ rest) longer ∙ append_assoc kept (hit ∷ []) rest ∙ sym whole;
      firsts = subst (All (λ p. p.first ≡ position_from (is_like places p.hit) 0 c.args.hits.items)) (sym pushed)
          (All-push (λ p. p.first ≡ position_from (is_like places p.hit) 0 c.args.hits.items) placed one c.hits.invariant.firsts
          (c.in_ok-first.ensures.first ∙ first (first_values places) (place_of c.hits.seen) kept c.hits.invariant.seen hit rest c.args.hits.items c.len-in-hits.result len whole));
      seen = λ values. c.in_ok-first.ensures.after values ∙ more (first_values places) (place_of c.hits.seen) kept c.hits.invariant.seen hit c.len-in-hits.result len values
          ∙ sym (ap (λ ks. place_in (first_values places) ks values) longer);
    }
