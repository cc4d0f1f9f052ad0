-- Numbers that are taken from the end of a list that rises.
use Rattle.std.proofs.Common.{◌≡◌, ℕ, ◌+◌, ◌-◌, ◌<◌, ◌≤◌, List, [], ◌∷◌, ◌++◌, length, get_or, take, arith, refl, ap, sym, ◌∙◌, subst, inl, inr}
use Rattle.std.specs.Prelude.{Contains}
use Rattle.std.proofs.lemmas.Bool.{cases_lt}
use Rattle.std.proofs.lemmas.List.{get_or_append_left, get_or_push, length_push, get_or_default, take_all, take_at, take_more}
use Rattle.std.proofs.lemmas.List.Elements.{Contains-append_left, Contains-push_cases}
use Rattle.haya_bibtex_inherited.specs.Search.{IsCutBack, IsRising}

-- all numbers up to the bound are left, and no others than those that were there
pub record IsCutting (xs : List ℕ) (bound : ℕ) (ys : List ℕ) : Type 0 where
  pub rising : IsRising ys
  pub kept : (b : ℕ) → Contains xs b → b ≤ bound → Contains ys b
  pub only : (b : ℕ) → Contains ys b → Contains xs b

pub IsCutting-start : (xs : List ℕ) (bound : ℕ) → IsRising xs → IsCutting xs bound xs
IsCutting-start xs bound up = record { rising = up; kept = λ b c h. c; only = λ b c. c }

pub rising_front : (xs : List ℕ) (n : ℕ) → IsRising (xs ++ n ∷ []) → IsRising xs
rising_front xs n up i j h k =
    let m : i < length xs = omega arith in
    let l : j < length (xs ++ n ∷ []) = omega (arith, length_push xs n) in
    rw (← get_or_append_left xs (n ∷ []) 0 j k, ← get_or_append_left xs (n ∷ []) 0 i m) (up i j h l)

-- those in front of the last are below it
pub below_last : (xs : List ℕ) (n b : ℕ) → IsRising (xs ++ n ∷ []) → Contains xs b → b < n
below_last xs n b up c =
    let l : length xs < length (xs ++ n ∷ []) = omega (arith, length_push xs n) in
    let a : get_or (xs ++ n ∷ []) c.0 0 ≡ b = get_or_append_left xs (n ∷ []) 0 c.0 c.1 ∙ get_or_default xs c.0 0 b c.1 ∙ c.2 in
    let z : get_or (xs ++ n ∷ []) (length xs) 0 ≡ n = get_or_push xs n 0 (length xs) refl in
    let h = up c.0 (length xs) c.1 l in
    omega (arith, h, a, z)

-- a last number above the bound goes
pub IsCutting-more : (xs : List ℕ) (bound : ℕ) (ys zs : List ℕ) (n : ℕ) → IsCutting xs bound ys → ys ≡ zs ++ n ∷ [] → bound < n → IsCutting xs bound zs
IsCutting-more xs bound ys zs n c e h =
    let up : IsRising (zs ++ n ∷ []) = subst IsRising e c.rising in
    record {
      rising = rising_front zs n up;
      kept = λ b k l. elim (Contains-push_cases zs n b (subst (λ (v : List ℕ). Contains v b) e (c.kept b k l))) [
        | inl d ↦ d
        | inr d ↦ absurd (omega arith)
      ];
      only = λ b k. c.only b (subst (λ (v : List ℕ). Contains v b) (sym e) (Contains-append_left zs (n ∷ []) b k));
    }

pub IsCutting-pop : (xs : List ℕ) (bound : ℕ) (ys zs : List ℕ) (n len : ℕ) → IsCutting xs bound ys → len ≡ length ys → 0 < length ys → n ≡ get_or ys (length ys - 1) 0 → zs ≡ take (len - 1) ys → bound < n → IsCutting xs bound zs
IsCutting-pop xs bound ys zs n len c l some last is h =
    let m = length ys - 1 in
    let e : take m ys ≡ zs = sym (is ∙ ap (λ x. take (x - 1) ys) l) in
    let in_ys : m < length ys = omega arith in
    let all : take (m + 1) ys ≡ ys = take_all (m + 1) ys (omega arith) in
    IsCutting-more xs bound ys zs n c (sym all ∙ take_more ys m 0 in_ys ∙ ap (λ v. v ++ get_or ys m 0 ∷ []) e ∙ ap (λ x. zs ++ x ∷ []) (sym last)) h

-- where the last is none above the bound, none is
pub IsCutting-end : (xs : List ℕ) (bound : ℕ) (ys : List ℕ) → IsCutting xs bound ys → (0 < length ys → get_or ys (length ys - 1) 0 ≤ bound) → IsCutBack xs bound ys
IsCutting-end xs bound ys c h =
    record {
      rising = c.rising;
      kept = c.kept;
      only = λ b k.
          let e : get_or ys k.0 0 ≡ b = get_or_default ys k.0 0 b k.1 ∙ k.2 in
          let z : 0 < length ys = omega (arith, k.1) in
          let l = h z in (
            c.only b k,
            elim (cases_lt k.0 (length ys - 1)) [
              | inl m ↦ let up = c.rising k.0 (length ys - 1) m (omega arith) in omega (arith, up, l, e)
              | inr m ↦ let same : k.0 ≡ length ys - 1 = omega (arith, k.1) in subst (λ (i : ℕ). get_or ys i 0 ≡ b → b ≤ bound) (sym same) (λ f. rw (← f) l) e
            ],
          );
    }

-- the list in front of the last that is taken
pub popped_front : (xs ys front : List ℕ) (n len : ℕ) → len ≡ length xs → xs ≡ front ++ n ∷ [] → ys ≡ take (len - 1) xs → ys ≡ front
popped_front xs ys front n len l e is =
    let long : length xs ≡ length front + 1 = ap length e ∙ length_push front n in
    let short : len - 1 ≡ length front = omega (arith, l, long) in
    is ∙ ap (λ x. take x xs) short ∙ ap (take (length front)) e ∙ take_at front (n ∷ []) (length front) refl

-- a list in front of its last number
pub last_split : (xs : List ℕ) (n : ℕ) → 0 < length xs → n ≡ get_or xs (length xs - 1) 0 → (front : List ℕ) × (xs ≡ front ++ n ∷ [])
last_split xs n some last =
    let m = length xs - 1 in
    let in_xs : m < length xs = omega arith in
    (take m xs, sym (take_all (m + 1) xs (omega arith)) ∙ take_more xs m 0 in_xs ∙ ap (λ x. take m xs ++ x ∷ []) (sym last))
