-- The firsts of a list, one element after another.
use Rattle.std.proofs.Common.{◌≡◌, Bool, true, false, cond, not, ◌||◌, List, [], ◌∷◌, ◌++◌, filter, refl, sym, ap, ◌∙◌, append_assoc}
use Rattle.std.proofs.lemmas.List.{append-nil}
use Rattle.std.proofs.lemmas.List.Folds.{list_any-append}
use Rattle.std.proofs.lemmas.List.Elements.{All-filter, All-head, All-tail, filter_passes}
use Rattle.std.specs.List.{list_any}
use Rattle.std.specs.Prelude.{All}
use Rattle.haya_asked.specs.Firsts.{firsts}

or-false : (k : Bool) → (k || (false || false)) ≡ k
or-false true = refl
or-false false = refl

or-true : (k : Bool) → (k || (true || false)) ≡ true
or-true true = refl
or-true false = refl

module _ {A : Type 0} (is_like : A → A → Bool) where
  abbrev pub has_like : List A → A → Bool
  has_like kept x = list_any (is_like x) kept

  -- the elements of a list that are like none of those
  abbrev pub others : List A → List A → List A
  others kept xs = filter (λ y. not (has_like kept y)) xs

  others-none : (xs : List A) → others [] xs ≡ xs
  others-none [] = refl
  others-none (x ∷ xs) = ap (λ ys. x ∷ ys) (others-none xs)

  pub start : (kept all rest : List A) → kept ≡ [] → rest ≡ all → kept ++ others kept (firsts is_like rest) ≡ firsts is_like all
  start kept all rest empty same =
      ap (λ k. k ++ others k (firsts is_like rest)) empty ∙ others-none (firsts is_like rest) ∙ ap (firsts is_like) same

  pub end : (kept all rest : List A) → rest ≡ [] → kept ++ others kept (firsts is_like rest) ≡ firsts is_like all → kept ≡ firsts is_like all
  end kept all rest empty h = sym (append-nil kept) ∙ sym (ap (λ r. kept ++ others kept (firsts is_like r)) empty) ∙ h

  -- those of a list that aren't like this one
  abbrev unlike : A → List A → List A
  unlike x ys = filter (λ y. not (is_like y x)) ys

  let_step : (kept : List A) (x y : A) (ys : List A) → others kept (unlike x ys) ≡ others (kept ++ x ∷ []) ys
      → has_like (kept ++ x ∷ []) y ≡ (has_like kept y || (is_like y x || false)) → (b k : Bool) → is_like y x ≡ b → has_like kept y ≡ k
      → others kept (cond (not b) (y ∷ unlike x ys) (unlike x ys))
      ≡ cond (not (has_like (kept ++ x ∷ []) y)) (y ∷ others (kept ++ x ∷ []) ys) (others (kept ++ x ∷ []) ys)
  let_step kept x y ys rest both true k e f =
      let r = others (kept ++ x ∷ []) ys in
      rest ∙ sym (ap (λ h. cond (not h) (y ∷ r) r) (both ∙ ap (λ b. has_like kept y || (b || false)) e ∙ or-true (has_like kept y)))
  let_step kept x y ys rest both false k e f =
      let r = others (kept ++ x ∷ []) ys in
      ap (λ zs. cond (not (has_like kept y)) (y ∷ zs) zs) rest
      ∙ sym (ap (λ h. cond (not h) (y ∷ r) r) (both ∙ ap (λ b. has_like kept y || (b || false)) e ∙ or-false (has_like kept y)))

  -- where x is kept, those like it are left out with it
  let_in : (kept : List A) (x : A) (ys : List A) → others kept (unlike x ys) ≡ others (kept ++ x ∷ []) ys
  let_in kept x [] = refl
  let_in kept x (y ∷ ys) =
      let_step kept x y ys (let_in kept x ys) (list_any-append (is_like y) kept (x ∷ [])) (is_like y x) (has_like kept y) refl refl

  pub step_in : (kept all rest xs : List A) (x : A) → has_like kept x ≡ false → rest ≡ x ∷ xs
      → kept ++ others kept (firsts is_like rest) ≡ firsts is_like all
      → (kept ++ x ∷ []) ++ others (kept ++ x ∷ []) (firsts is_like xs) ≡ firsts is_like all
  step_in kept all rest xs x new split h =
      let f = unlike x (firsts is_like xs) in
      append_assoc kept (x ∷ []) (others (kept ++ x ∷ []) (firsts is_like xs))
      ∙ sym (ap (λ zs. kept ++ (x ∷ zs)) (let_in kept x (firsts is_like xs)))
      ∙ sym (ap (λ b. kept ++ cond (not b) (x ∷ others kept f) (others kept f)) new)
      ∙ sym (ap (λ r. kept ++ others kept (firsts is_like r)) split) ∙ h

  module _ (alike : (x y : A) → is_like y x ≡ true → (e : A) → is_like x e ≡ is_like y e) where
    any-same : (x y : A) → is_like y x ≡ true → (kept : List A) → has_like kept y ≡ has_like kept x
    any-same x y h [] = refl
    any-same x y h (e ∷ kept) = ap (λ b. b || has_like kept y) (sym (alike x y h e)) ∙ ap (λ b. is_like x e || b) (any-same x y h kept)

    left_step : (kept : List A) (x y : A) (ys : List A) → has_like kept x ≡ true → others kept (unlike x ys) ≡ others kept ys → (b : Bool) → is_like y x ≡ b
        → others kept (cond (not b) (y ∷ unlike x ys) (unlike x ys)) ≡ cond (not (has_like kept y)) (y ∷ others kept ys) (others kept ys)
    left_step kept x y ys h rest true e =
        rest ∙ sym (ap (λ b. cond (not b) (y ∷ others kept ys) (others kept ys)) (any-same x y e kept ∙ h))
    left_step kept x y ys h rest false e = ap (λ zs. cond (not (has_like kept y)) (y ∷ zs) zs) rest

    -- where x is like one that is kept, those like x are left out anyway
    left_out : (kept : List A) (x : A) → has_like kept x ≡ true → (ys : List A) → others kept (unlike x ys) ≡ others kept ys
    left_out kept x h [] = refl
    left_out kept x h (y ∷ ys) = left_step kept x y ys h (left_out kept x h ys) (is_like y x) refl

    pub step_out : (kept all rest xs : List A) (x : A) → has_like kept x ≡ true → rest ≡ x ∷ xs
        → kept ++ others kept (firsts is_like rest) ≡ firsts is_like all
        → kept ++ others kept (firsts is_like xs) ≡ firsts is_like all
    step_out kept all rest xs x old split h =
        let f = unlike x (firsts is_like xs) in
        sym (ap (λ zs. kept ++ zs) (left_out kept x old (firsts is_like xs)))
        ∙ sym (ap (λ b. kept ++ cond (not b) (x ∷ others kept f) (others kept f)) old)
        ∙ sym (ap (λ r. kept ++ others kept (firsts is_like r)) split) ∙ h

-- ---- the firsts of the firsts

filter-all : {A : Type 0} (p : A → Bool) (xs : List A) → All (λ x. p x ≡ true) xs → filter p xs ≡ xs
filter-all p [] all = refl
filter-all p (x ∷ xs) all =
    ap (λ b. cond b (x ∷ filter p xs) (filter p xs)) (All-head (λ y. p y ≡ true) x xs all)
    ∙ ap (λ ys. x ∷ ys) (filter-all p xs (All-tail (λ y. p y ≡ true) x xs all))

module _ {A : Type 0} (is_like : A → A → Bool) where
  -- none is like an earlier one
  data AreApart : List A → Type 0 where
    none : AreApart []
    one : (x : A) (xs : List A) → All (λ y. not (is_like y x) ≡ true) xs → AreApart xs → AreApart (x ∷ xs)

  filter_step : (p : A → Bool) (x : A) (xs : List A) (b : Bool) → All (λ y. not (is_like y x) ≡ true) xs → AreApart (filter p xs) → AreApart (cond b (x ∷ filter p xs) (filter p xs))
  filter_step p x xs true all rest = one x (filter p xs) (All-filter p (λ y. not (is_like y x) ≡ true) xs all) rest
  filter_step p x xs false all rest = rest

  AreApart-filter : (p : A → Bool) (xs : List A) → AreApart xs → AreApart (filter p xs)
  AreApart-filter p _ none = none
  AreApart-filter p _ (one x xs all rest) = filter_step p x xs (p x) all (AreApart-filter p xs rest)

  AreApart-firsts : (xs : List A) → AreApart (firsts is_like xs)
  AreApart-firsts [] = none
  AreApart-firsts (x ∷ xs) =
      one x (unlike is_like x (firsts is_like xs)) (filter_passes (λ y. not (is_like y x)) (firsts is_like xs))
      (AreApart-filter (λ y. not (is_like y x)) (firsts is_like xs) (AreApart-firsts xs))

  firsts_of_apart : (xs : List A) → AreApart xs → firsts is_like xs ≡ xs
  firsts_of_apart _ none = refl
  firsts_of_apart _ (one x xs all rest) =
      ap (λ ys. x ∷ ys) (ap (unlike is_like x) (firsts_of_apart xs rest) ∙ filter-all (λ y. not (is_like y x)) xs all)

  pub firsts-firsts : (xs : List A) → firsts is_like (firsts is_like xs) ≡ firsts is_like xs
  firsts-firsts xs = firsts_of_apart (firsts is_like xs) (AreApart-firsts xs)
