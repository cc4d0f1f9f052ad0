-- The place of the first element of a list that has these values.
use Rattle.std.proofs.Common.{◌≡◌, ℕ, ◌+◌, Bool, true, false, cond, ◌||◌, List, [], ◌∷◌, ◌++◌, length, Option, None, Some, is_some, refl, sym, ap, ◌∙◌, arith}
use Rattle.std.specs.Cmp.Lexicographic.{pointwise}
use Rattle.std.specs.List.{list_any, position_from}
use Rattle.std.specs.Option.{option_or}
use Rattle.std.specs.Prelude.{if◌then◌else◌, option_and_then}
use Rattle.std.specs.Str.{bytes_eq}
use Rattle.haya_asked.specs.Alike.{are_same}
use Rattle.haya_asked.specs.Seen.{with_some}
use Rattle.haya_asked.proofs.SeenLemmas.{texts_eq-Decides}

-- ---- places in a list with one more element

more_step : (b : Bool) (i : ℕ) (whole part behind later : Option ℕ) → whole ≡ option_or part later → later ≡ behind
    → cond b (Some i) whole ≡ option_or (cond b (Some i) part) behind
more_step true i whole part behind later h same = refl
more_step false i whole part behind later h same = h ∙ ap (option_or part) same

position-more : {A : Type 0} (t : A → Bool) (i : ℕ) (xs : List A) (x : A)
    → position_from t i (xs ++ x ∷ []) ≡ option_or (position_from t i xs) (if t x then Some (i + length xs) else None)
position-more t i [] x = ap (λ n. if t x then Some n else None) (let e : i ≡ i + 0 = omega arith in e)
position-more t i (y ∷ ys) x =
    more_step (t y) i (position_from t (i + 1) (ys ++ x ∷ [])) (position_from t (i + 1) ys) (if t x then Some (i + length (y ∷ ys)) else None)
    (if t x then Some ((i + 1) + length ys) else None) (position-more t (i + 1) ys x)
    (ap (λ n. if t x then Some n else None) (let e : (i + 1) + length ys ≡ i + length (y ∷ ys) = omega arith in e))

found_step : (b : Bool) (i : ℕ) (rest : Option ℕ) (any : Bool) → is_some rest ≡ any → is_some (cond b (Some i) rest) ≡ (b || any)
found_step true i rest any h = refl
found_step false i rest any h = h

pub position-any : {A : Type 0} (t : A → Bool) (i : ℕ) (xs : List A) → is_some (position_from t i xs) ≡ list_any t xs
position-any t i [] = refl
position-any t i (x ∷ xs) = found_step (t x) i (position_from t (i + 1) xs) (list_any t xs) (position-any t (i + 1) xs)

-- ---- values

pub same_values : (a b : Option (List (List ℕ))) → are_same a b ≡ true → a ≡ b
same_values (Some a) (Some b) h = ap Some ((texts_eq-Decides a b).0 h)
same_values (Some a) None h = cc
same_values None (Some b) h = cc
same_values None None h = refl

module _ {A : Type 0} (value : A → Option (List (List ℕ))) where
  abbrev pub like : A → A → Bool
  like x y = are_same (value x) (value y)

  pub like-same : (x y : A) → like y x ≡ true → (e : A) → like x e ≡ like y e
  like-same x y h e = ap (λ v. are_same v (value e)) (sym (same_values (value y) (value x) h))

  -- the place of the first that has these values
  abbrev pub place_in : List A → List (List ℕ) → Option ℕ
  place_in kept values = position_from (λ x. are_same (Some values) (value x)) 0 kept

  pub nowhere : (i : ℕ) (kept : List A) → position_from (λ x. are_same None (value x)) i kept ≡ None
  nowhere i [] = refl
  nowhere i (x ∷ kept) = nowhere (i + 1) kept

  module _ (places : List (List ℕ) → Option ℕ) (kept : List A) (seen : (values : List (List ℕ)) → places values ≡ place_in kept values) where
    found-at : (v : Option (List (List ℕ))) → option_and_then places v ≡ position_from (λ e. are_same v (value e)) 0 kept
    found-at None = sym (nowhere 0 kept)
    found-at (Some v) = seen v

    -- an earlier place is that of the first that is like it
    pub found : (x : A) → option_and_then places (value x) ≡ position_from (like x) 0 kept
    found x = found-at (value x)

    more-at : (x : A) (n : ℕ) → n ≡ length kept → (v : Option (List (List ℕ))) → value x ≡ v → (values : List (List ℕ))
        → with_some places v n values ≡ option_or (place_in kept values) (if are_same (Some values) v then Some (0 + length kept) else None)
    more-at x n same None e values = seen values ∙ none-behind (place_in kept values)
      where
        none-behind : (o : Option ℕ) → o ≡ option_or o None
        none-behind None = refl
        none-behind (Some p) = refl
    more-at x n same (Some v) e values =
        ap (λ o. option_or o (if pointwise bytes_eq values v then Some n else None)) (seen values)
        ∙ ap (λ m. option_or (place_in kept values) (if pointwise bytes_eq values v then Some m else None)) (let e : n ≡ 0 + length kept = omega arith in e)

    -- once it is put, values are found where they are in the longer list
    pub more : (x : A) (n : ℕ) → n ≡ length kept → (values : List (List ℕ)) → with_some places (value x) n values ≡ place_in (kept ++ x ∷ []) values
    more x n same values =
        more-at x n same (value x) refl values ∙ sym (position-more (λ y. are_same (Some values) (value y)) 0 kept x)

    again-at : (v : Option (List (List ℕ))) (n : ℕ) → is_some (option_and_then places v) ≡ true → (values : List (List ℕ)) → with_some places v n values ≡ places values
    again-at None n h values = refl
    again-at (Some v) n h values = by (pointwise bytes_eq values v) refl (places values) refl
      where
        by : (b : Bool) → pointwise bytes_eq values v ≡ b → (o : Option ℕ) → places values ≡ o → option_or o (if b then Some n else None) ≡ o
        by b e (Some p) f = refl
        by false e None f = refl
        by true e None f =
            let same : values ≡ v = (texts_eq-Decides values v).0 e in
            absurd (let clash : true ≡ false = sym h ∙ ap (λ w. is_some (places w)) (sym same) ∙ ap is_some f in cc)

    -- where one like it was put before, nothing changes
    pub again : (x : A) (n : ℕ) → is_some (option_and_then places (value x)) ≡ true → (values : List (List ℕ)) → with_some places (value x) n values ≡ place_in kept values
    again x n h values = again-at (value x) n h values ∙ seen values
