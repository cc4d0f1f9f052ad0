-- Numeric characters, and the runs of characters at the front of a text.
use Rattle.std.proofs.Common.{◌≡◌, ℕ, zero, suc, ◌+◌, ◌-◌, ◌<◌, ◌≤◌, Bool, true, false, cond, List, [], ◌∷◌, ◌++◌, refl, ap, subst, arith}
use Rattle.std.proofs.lemmas.Bool.Decides.{nat_tests}
use Rattle.std.specs.Char.{is_ascii_digit, is_whitespace}
use Rattle.std.specs.List.{list_all}
use Rattle.std.specs.Str.{skip_leading_whitespace}
use Rattle.ucd_category.proofs.Computing.{ucd_category}
use Rattle.haya_text.specs.Characters.{hyphen, is_numeric, run, behind_run, begins_with}
use Rattle.haya_text.proofs.Tells.{and-both}

-- ---- digits

-- the ten digits are numeric
pub digits_numeric : (d : ℕ) → d < 10 → is_numeric (48 + d) ≡ true
unfolding ucd_category
digits_numeric zero h = refl
digits_numeric (suc zero) h = refl
digits_numeric (suc (suc zero)) h = refl
digits_numeric (suc (suc (suc zero))) h = refl
digits_numeric (suc (suc (suc (suc zero)))) h = refl
digits_numeric (suc (suc (suc (suc (suc zero))))) h = refl
digits_numeric (suc (suc (suc (suc (suc (suc zero)))))) h = refl
digits_numeric (suc (suc (suc (suc (suc (suc (suc zero))))))) h = refl
digits_numeric (suc (suc (suc (suc (suc (suc (suc (suc zero)))))))) h = refl
digits_numeric (suc (suc (suc (suc (suc (suc (suc (suc (suc zero))))))))) h = refl
digits_numeric (suc (suc (suc (suc (suc (suc (suc (suc (suc (suc d)))))))))) h = absurd (omega arith)

pub digit_low : (c : ℕ) → is_ascii_digit c ≡ true → 48 ≤ c
digit_low c h = grind (arith, nat_tests)

pub digit_high : (c : ℕ) → is_ascii_digit c ≡ true → c ≤ 57
digit_high c h = grind (arith, nat_tests)

pub digit-numeric : (c : ℕ) → is_ascii_digit c ≡ true → is_numeric c ≡ true
digit-numeric c h =
    let low = digit_low c h in
    let high = digit_high c h in
    let e : 48 + (c - 48) ≡ c = omega arith in
    let k : c - 48 < 10 = omega arith in
    subst (λ d. is_numeric d ≡ true) e (digits_numeric (c - 48) k)

pub hyphen-numeric : is_numeric hyphen ≡ false
unfolding ucd_category
hyphen-numeric = refl

-- ---- runs

-- a text is a run and what follows it
pub run-behind_run : (p : ℕ → Bool) (cs : List ℕ) → cs ≡ run p cs ++ behind_run p cs
run-behind_run p [] = refl
run-behind_run p (c ∷ cs) = go (p c) refl (run-behind_run p cs)
  where
    go : (b : Bool) → p c ≡ b → cs ≡ run p cs ++ behind_run p cs → c ∷ cs ≡ run p (c ∷ cs) ++ behind_run p (c ∷ cs)
    go true h rest = rw h (ap (λ v. c ∷ v) rest)
    go false h rest = rw h refl

pub all-run : (p : ℕ → Bool) (cs : List ℕ) → list_all p (run p cs) ≡ true
all-run p [] = refl
all-run p (c ∷ cs) = go (p c) refl (all-run p cs)
  where
    go : (b : Bool) → p c ≡ b → list_all p (run p cs) ≡ true → list_all p (run p (c ∷ cs)) ≡ true
    go true h rest = rw (h, h) rest
    go false h rest = rw h refl

-- no more of the run follows it
pub behind_run-stops : (p : ℕ → Bool) (cs : List ℕ) → begins_with p (behind_run p cs) ≡ false
behind_run-stops p [] = refl
behind_run-stops p (c ∷ cs) = go (p c) refl (behind_run-stops p cs)
  where
    go : (b : Bool) → p c ≡ b → begins_with p (behind_run p cs) ≡ false → begins_with p (behind_run p (c ∷ cs)) ≡ false
    go true h rest = rw h rest
    go false h rest = rw (h, h) refl

-- where none begins, all is left
pub run-none : (p : ℕ → Bool) (cs : List ℕ) → begins_with p cs ≡ false → run p cs ≡ []
run-none p [] h = refl
run-none p (c ∷ cs) h = rw h refl

pub none-run : (p : ℕ → Bool) (cs : List ℕ) → run p cs ≡ [] → begins_with p cs ≡ false
none-run p [] h = refl
none-run p (c ∷ cs) h = go (p c) refl h
  where
    go : (b : Bool) → p c ≡ b → cond b (c ∷ run p cs) [] ≡ [] → p c ≡ false
    go true e k = cc
    go false e k = e

-- characters that pass the test, before one that doesn't
pub run-of : (p : ℕ → Bool) (front rest : List ℕ) → list_all p front ≡ true → begins_with p rest ≡ false → run p (front ++ rest) ≡ front
run-of p [] [] h s = refl
run-of p [] (c ∷ cs) h s = rw s refl
run-of p (c ∷ cs) rest h s =
    let q = and-both (p c) (list_all p cs) h in
    rw q.0 (ap (λ x. c ∷ x) (run-of p cs rest q.1 s))

pub behind_run-of : (p : ℕ → Bool) (front rest : List ℕ) → list_all p front ≡ true → begins_with p rest ≡ false → behind_run p (front ++ rest) ≡ rest
behind_run-of p [] [] h s = refl
behind_run-of p [] (c ∷ cs) h s = rw s refl
behind_run-of p (c ∷ cs) rest h s =
    let q = and-both (p c) (list_all p cs) h in
    rw q.0 (behind_run-of p cs rest q.1 s)

-- white space at the front
pub skip-behind_run : (cs : List ℕ) → skip_leading_whitespace cs ≡ behind_run is_whitespace cs
skip-behind_run [] = refl
skip-behind_run (c ∷ cs) = ap (λ x. cond (is_whitespace c) x (c ∷ cs)) (skip-behind_run cs)
