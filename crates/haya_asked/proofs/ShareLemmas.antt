-- Elements that are like one place have the same first place.
use Rattle.std.proofs.Common.{rules, ◌≡◌, ℕ, ◌+◌, ◌<◌, ◌≤◌, Bool, true, false, cond, List, [], ◌∷◌, ◌++◌, length, Option, None, Some, refl, sym, ap, ◌∙◌, arith}
use Rattle.std.proofs.Math.Path.{fun_ext}
use Rattle.std.proofs.lemmas.Bool.{eq-eqb, eqb-true}
use Rattle.std.specs.List.{position_from}
use Rattle.std.specs.Option.{IfSome}
use Rattle.std.specs.Prelude.{option_map, unwrap_or}
use Rattle.haya_asked.specs.Alike.{are_same}
use Rattle.haya_asked.specs.Placed.{is_at}
use Rattle.haya_asked.proofs.PlaceLemmas.{like, like-same, nowhere, place_in, same_values}
use Rattle.haya_asked.proofs.SeenLemmas.{texts_eq-Decides}

-- ---- places

behind_step : (b : Bool) (i n m : ℕ) (whole part : Option ℕ) → n ≡ m → whole ≡ Some (unwrap_or part n) → cond b (Some i) whole ≡ Some (unwrap_or (cond b (Some i) part) m)
behind_step true i n m whole part same h = refl
behind_step false i n m whole part same h = h ∙ ap (λ k. Some (unwrap_or part k)) same

-- the place of an element that passes is that of the first that does
position-passing : {A : Type 0} (t : A → Bool) (i : ℕ) (xs : List A) (x : A) (rest : List A) → t x ≡ true
    → position_from t i (xs ++ x ∷ rest) ≡ Some (unwrap_or (position_from t i xs) (i + length xs))
position-passing t i [] x rest passes =
    ap (λ b. cond b (Some i) (position_from t (i + 1) rest)) passes ∙ ap Some (let e : i ≡ i + 0 = omega arith in e)
position-passing t i (y ∷ ys) x rest passes =
    behind_step (t y) i ((i + 1) + length ys) (i + length (y ∷ ys)) (position_from t (i + 1) (ys ++ x ∷ rest)) (position_from t (i + 1) ys)
    (omega arith) (position-passing t (i + 1) ys x rest passes)

from_step : (b : Bool) (i n : ℕ) (rest : Option ℕ) → i < n → IfSome rest (λ j. (i + 1 ≤ j) × (j < n)) → IfSome (cond b (Some i) rest) (λ j. (i ≤ j) × (j < n))
from_step true i n rest within h = (omega arith, within)
from_step false i n None within h = h
from_step false i n (Some j) within h = let low = h.0 in (omega arith, h.1)

position-within : {A : Type 0} (t : A → Bool) (i n : ℕ) (xs : List A) → n ≡ i + length xs → IfSome (position_from t i xs) (λ j. (i ≤ j) × (j < n))
position-within t i n [] same = search rules
position-within t i n (x ∷ xs) same =
    from_step (t x) i n (position_from t (i + 1) xs) (omega arith) (position-within t (i + 1) n xs (omega arith))

below : (o : Option ℕ) (n : ℕ) → IfSome o (λ j. (0 ≤ j) × (j < n)) → IfSome o (λ j. j < n)
below None n h = h
below (Some j) n h = h.1

pub position-below : {A : Type 0} (t : A → Bool) (xs : List A) → IfSome (position_from t 0 xs) (λ j. j < length xs)
position-below t xs = below (position_from t 0 xs) (length xs) (position-within t 0 (length xs) xs (omega arith))

later : {A : Type 0} (t : A → Bool) (i j : ℕ) (xs : List A) → position_from t (i + 1) xs ≡ Some j → i < j
later t i j xs at = by (position_from t (i + 1) xs) at (position-within t (i + 1) ((i + 1) + length xs) xs refl)
  where
    by : (o : Option ℕ) → o ≡ Some j → IfSome o (λ k. (i + 1 ≤ k) × (k < (i + 1) + length xs)) → i < j
    by None e h = absurd (let clash : None ≡ Some j = e in cc)
    by (Some k) e h = let same : k ≡ j = cc in let low = h.0 in omega arith

-- an element that passes both tests
abbrev Both : {A : Type 0} → (A → Bool) → (A → Bool) → Type 0
Both {A} t u = (x : A) × (t x ≡ true) × (u x ≡ true)

both_step : {A : Type 0} (t u : A → Bool) (i j : ℕ) (x : A) (xs : List A) → (position_from t (i + 1) xs ≡ Some j → position_from u (i + 1) xs ≡ Some j → Both t u)
    → (b c : Bool) → t x ≡ b → u x ≡ c → cond b (Some i) (position_from t (i + 1) xs) ≡ Some j → cond c (Some i) (position_from u (i + 1) xs) ≡ Some j → Both t u
both_step t u i j x xs rest true true e f g h = (x, e, f)
both_step t u i j x xs rest true false e f g h = let same : i ≡ j = cc in let low = later u i j xs h in absurd (omega arith)
both_step t u i j x xs rest false true e f g h = let same : i ≡ j = cc in let low = later t i j xs g in absurd (omega arith)
both_step t u i j x xs rest false false e f g h = rest g h

-- where the first that pass two tests are at one place, it passes both
position-both : {A : Type 0} (t u : A → Bool) (i j : ℕ) (xs : List A) → position_from t i xs ≡ Some j → position_from u i xs ≡ Some j → Both t u
position-both t u i j [] g h = absurd (let clash : None ≡ Some j = g in cc)
position-both t u i j (x ∷ xs) g h =
    both_step t u i j x xs (position-both t u (i + 1) j xs) (t x) (u x) refl refl g h

-- ---- elements with values

are_same-self : (v : List (List ℕ)) → are_same (Some v) (Some v) ≡ true
are_same-self v = (texts_eq-Decides v v).1 refl

some_of : (a b : Option (List (List ℕ))) → are_same a b ≡ true → are_same a a ≡ true
some_of (Some a) b h = are_same-self a
some_of None None h = cc
some_of None (Some b) h = cc

module _ {A : Type 0} (value : A → Option (List (List ℕ))) where
  first-at : (places : List (List ℕ) → Option ℕ) (kept : List A) (seen : (values : List (List ℕ)) → places values ≡ place_in value kept values)
      → (x : A) (rest : List A) (v : Option (List (List ℕ))) → value x ≡ v
      → option_map (λ values. unwrap_or (places values) (length kept)) v ≡ position_from (λ e. are_same v (value e)) 0 (kept ++ x ∷ rest)
  first-at places kept seen x rest None e = sym (nowhere value 0 (kept ++ x ∷ rest))
  first-at places kept seen x rest (Some v) e =
      ap (λ o. Some (unwrap_or o (length kept))) (seen v)
      ∙ ap (λ n. Some (unwrap_or (place_in value kept v) n)) (let s : length kept ≡ 0 + length kept = omega arith in s)
      ∙ sym (position-passing (λ y. are_same (Some v) (value y)) 0 kept x rest (ap (are_same (Some v)) e ∙ are_same-self v))

  -- the place under which the values were put, or this one, is that of the first of all
  pub first : (places : List (List ℕ) → Option ℕ) (kept : List A) (seen : (values : List (List ℕ)) → places values ≡ place_in value kept values)
      → (x : A) (rest all : List A) (n : ℕ) → n ≡ length kept → all ≡ kept ++ x ∷ rest
      → option_map (λ values. unwrap_or (places values) n) (value x) ≡ position_from (like value x) 0 all
  first places kept seen x rest all n same whole =
      ap (λ m. option_map (λ values. unwrap_or (places values) m) (value x)) same ∙ first-at places kept seen x rest (value x) refl
      ∙ sym (ap (position_from (like value x) 0) whole)

  module _ (all : List A) (x : A) (i : ℕ) (at : position_from (like value x) 0 all ≡ Some i) where
    not_here : (y : A) (o : Option ℕ) → position_from (like value y) 0 all ≡ o → like value x y ≡ false → (b : Bool) → is_at i o ≡ b → b ≡ false
    not_here y o e apart false h = refl
    not_here y None e apart true h = cc
    not_here y (Some j) e apart true h =
        let same : j ≡ i = eqb-true j i h in
        let both = position-both (like value x) (like value y) 0 i all at (e ∙ ap Some same) in
        let alike : value x ≡ value y = same_values (value x) (value both.0) both.1 ∙ sym (same_values (value y) (value both.0) both.2) in
        let fits : like value x y ≡ true = ap (are_same (value x)) (sym alike) ∙ some_of (value x) (value both.0) both.1 in
        absurd (let clash : true ≡ false = sym fits ∙ apart in cc)

    here : (y : A) (b : Bool) → like value x y ≡ b → is_at i (position_from (like value y) 0 all) ≡ b
    here y true alike =
        ap (is_at i) (ap (λ t. position_from t 0 all) (fun_ext (like-same value y x alike)) ∙ at) ∙ eq-eqb i i refl
    here y false apart = not_here y (position_from (like value y) 0 all) refl apart (is_at i (position_from (like value y) 0 all)) refl

    -- the first place of another is this one exactly where it is like it
    pub same_place : (y : A) → is_at i (position_from (like value y) 0 all) ≡ like value x y
    same_place y = here y (like value x y) refl
