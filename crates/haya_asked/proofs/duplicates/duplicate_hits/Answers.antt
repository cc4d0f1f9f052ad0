use Rattle.std.proofs.Common.{◌≡◌, ◌<◌, ℕ, filter, get_or, length, map, sym, ap, ◌∙◌, subst}
use Rattle.std.proofs.lemmas.List.{length-map}
use Rattle.std.proofs.lemmas.List.Elements.{All-filter}
use Rattle.std.specs.List.{count_by, position_from}
use Rattle.std.specs.Option.{IfSome, option_cmp}
use Rattle.std.specs.Ordering.{nat_cmp, on}
use Rattle.std.specs.Prelude.{All, slice_index}
use Rattle.haya_questions.specs.Place.{place_view}
use Rattle.haya_asked.specs.Alike.{first_values, is_like}
use Rattle.haya_asked.specs.Firsts.{first_order, is_shared}
use Rattle.haya_questions.specs.Ranked.{IsSortOf}
use Rattle.haya_asked.specs.Placed.{is_at, is_counted}
use Rattle.haya_asked.proofs.CountLemmas.{IsPlaced, shared}
use Rattle.haya_asked.proofs.ShareLemmas.{position-below}
use Rattle.haya_questions.proofs.Sorts.{sort_of}
use Rattle.haya_asked.proofs.duplicates.duplicate_hits.Goals as goal

pub counts_of-requires : goal.counts_of-requires
counts_of-requires c =
    let placed = c.in_ok-placed.placed.items in
    let len : length c.args.hits.items ≡ length placed = ap length (sym c.in_ok-placed.ensures.hits) ∙ length-map placed (λ p. p.hit) in
    let all : All (λ p. IfSome p.first (λ i. i < length placed)) placed = (λ k d within.
    subst (λ o. IfSome o (λ i. i < length placed)) (sym (c.in_ok-placed.ensures.firsts k d within))
    (subst (λ n. IfSome (position_from (is_like (map place_view c.args.places.now) (get_or placed k d).hit) 0 c.args.hits.items) (λ i. i < n)) len
    (position-below (is_like (map place_view c.args.places.now) (get_or placed k d).hit) c.args.hits.items))) in
    subst (λ ps. All (λ p. IfSome p.first (λ i. i < length ps)) ps) (sym c.as_slice.ensures.value) all

pub returns : goal.returns
returns c =
    let alike = is_like (map place_view c.args.places.now) in
    let placed = c.in_ok-placed.placed.items in
    let found = c.in_ok-shared.shared.items in
    let after = c.sort_placed.new.placed.items in
    let same = c.in_ok-placed.ensures.hits in
    let counted : (i : ℕ) → slice_index c.in_ok-counts.counts.items i ≡ count_by (λ p. is_at i p.first) placed =
    (λ i. c.in_ok-counts.ensures i ∙ ap (count_by (λ p. is_at i p.first)) c.as_slice.ensures.value) in
    let whole : All (IsPlaced (first_values (map place_view c.args.places.now)) placed) placed =
    subst (λ all. All (λ p. p.first ≡ position_from (alike p.hit) 0 all) placed) (sym same) c.in_ok-placed.ensures.firsts in
    let is : found ≡ filter (λ p. is_counted c.in_ok-counts.counts.items p.first) placed =
    c.in_ok-shared.ensures ∙ ap (λ counts. filter (λ p. is_counted counts p.first) placed) c.as_slice-2.ensures.value in
    let those : All (IsPlaced (first_values (map place_view c.args.places.now)) placed) found =
    subst (All (IsPlaced (first_values (map place_view c.args.places.now)) placed)) (sym is)
    (All-filter (λ p. is_counted c.in_ok-counts.counts.items p.first) (IsPlaced (first_values (map place_view c.args.places.now)) placed) placed whole) in
    let sort = sort_of (λ p. p.hit) (first_order alike (map (λ p. p.hit) placed)) (on (λ p. p.first) (option_cmp nat_cmp)) (IsPlaced (first_values (map place_view c.args.places.now)) placed)
    (λ a b p q. sym (ap (λ o. option_cmp nat_cmp o b.first) p ∙ ap (option_cmp nat_cmp (position_from (alike a.hit) 0 (map (λ p. p.hit) placed))) q))
    found after those c.sort_placed.ensures.same c.in_ok-sort_placed.ensures.sorted c.sort_placed.ensures.stable in
    subst (λ all. IsSortOf (first_order alike all) (filter (is_shared alike all) all) c.in_ok-hits_of.field-0.items) same
    (subst (λ xs. IsSortOf (first_order alike (map (λ p. p.hit) placed)) xs c.in_ok-hits_of.field-0.items) (shared (first_values (map place_view c.args.places.now)) placed c.in_ok-counts.counts.items counted whole found is)
    (subst (λ ys. IsSortOf (first_order alike (map (λ p. p.hit) placed)) (map (λ p. p.hit) found) ys) (sym c.in_ok-hits_of.ensures) sort))
