-- Those that count more than one are those that others are like.
use Rattle.std.proofs.Common.{◌≡◌, ◌+◌, ℕ, Bool, true, false, cond, ◌||◌, List, [], ◌∷◌, filter, map, Option, None, Some, get_or, refl, sym, ap, ◌∙◌, arith}
use Rattle.std.specs.List.{count_by, position_from}
use Rattle.std.specs.Prelude.{All, is_some, nat_lt, slice_index}
use Rattle.std.specs.List.{list_any}
use Rattle.std.proofs.lemmas.List.Elements.{All-head, All-tail}
use Rattle.std.proofs.lemmas.List.Sums.{sum_by-cons}
use Rattle.haya_asked.specs.Firsts.{is_shared}
use Rattle.haya_asked.specs.Placed.{is_at, is_counted}
use Rattle.haya_asked.specs.declared.duplicates.PlacedHit.{PlacedHit}
use Rattle.hayagriva.specs.declared.query.Hit.{Hit}
use Rattle.haya_asked.proofs.PlaceLemmas.{like, position-any}
use Rattle.haya_asked.proofs.ShareLemmas.{same_place}
use Rattle.haya_questions.proofs.Sorts.{filter-alike, filter-items}

count-cons : {A : Type 0} (t : A → Bool) (x : A) (xs : List A) → count_by t (x ∷ xs) ≡ cond (t x) 1 0 + count_by t xs
count-cons t x xs = sum_by-cons (λ y. cond (t y) 1 0) x xs

count_step : (b c : Bool) (m n : ℕ) → b ≡ c → m ≡ n → cond b 1 0 + m ≡ cond c 1 0 + n
count_step b c m n e f = ap (λ d. cond d 1 0 + m) e ∙ ap (λ k. cond c 1 0 + k) f

count-hits : (p : PlacedHit → Bool) (q : Hit → Bool) (placed : List PlacedHit) → All (λ k. p k ≡ q k.hit) placed → count_by p placed ≡ count_by q (map (λ k. k.hit) placed)
count-hits p q [] all = refl
count-hits p q (k ∷ placed) all =
    count-cons p k placed ∙ count_step (p k) (q k.hit) (count_by p placed) (count_by q (map (λ k. k.hit) placed)) (All-head (λ k. p k ≡ q k.hit) k placed all)
    (count-hits p q placed (All-tail (λ k. p k ≡ q k.hit) k placed all)) ∙ sym (count-cons q k.hit (map (λ k. k.hit) placed))

none_step : (b c : Bool) (n : ℕ) → (b || c) ≡ false → (c ≡ false → n ≡ 0) → cond b 1 0 + n ≡ 0
none_step true c n h rest = cc
none_step false c n h rest = let e : n ≡ 0 = rest h in omega arith

none-counts : {A : Type 0} (t : A → Bool) (xs : List A) → list_any t xs ≡ false → count_by t xs ≡ 0
none-counts t [] h = refl
none-counts t (x ∷ xs) h = count-cons t x xs ∙ none_step (t x) (list_any t xs) (count_by t xs) h (none-counts t xs)

module _ (value : Hit → Option (List (List ℕ))) (placed : List PlacedHit) where
  abbrev all : List Hit
  all = map (λ p. p.hit) placed

  abbrev pub IsPlaced : PlacedHit → Type 0
  IsPlaced p = p.first ≡ position_from (like value p.hit) 0 all

  module _ (counts : List ℕ) (counted : (i : ℕ) → slice_index counts i ≡ count_by (λ p. is_at i p.first) placed) (whole : All IsPlaced placed) where
    count-at : (x : Hit) (o : Option ℕ) → position_from (like value x) 0 all ≡ o → is_counted counts o ≡ is_shared (like value) all x
    count-at x None e =
        sym (ap (nat_lt 1) (none-counts (like value x) all (sym (position-any (like value x) 0 all) ∙ ap is_some e)))
    count-at x (Some i) e =
        ap (nat_lt 1) (counted i ∙ count-hits (λ p. is_at i p.first) (like value x) placed
        (λ k d within. ap (is_at i) (whole k d within) ∙ same_place value all x i e (get_or placed k d).hit))

    -- those that count more than one are those that others are like
    pub shared : (found : List PlacedHit) → found ≡ filter (λ p. is_counted counts p.first) placed
        → map (λ p. p.hit) found ≡ filter (is_shared (like value) all) all
    shared found is =
        ap (map (λ p. p.hit)) (is ∙ filter-alike (λ p. p.hit) (λ p. is_counted counts p.first) (λ p. is_shared (like value) all p.hit) placed
        (λ k d within. ap (is_counted counts) (whole k d within) ∙ count-at (get_or placed k d).hit (position_from (like value (get_or placed k d).hit) 0 all) refl))
        ∙ sym (filter-items (λ p. p.hit) (is_shared (like value) all) placed)
