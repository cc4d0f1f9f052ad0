-- The longest runs at the front of a text.
use Rattle.std.proofs.Common.{◌≡◌, ℕ, Bool, true, false, List, [], ◌∷◌, ◌++◌, refl, ap, sym, All, cond}
use Rattle.std.specs.Prelude.{IfSome, slice_get}
use Rattle.std.proofs.lemmas.List.Elements.{All-head, All-tail}
use Rattle.haya_text.specs.Characters.{run, behind_run}

-- a text cut before the first character that fails the test
pub run_from_cut : (p : ℕ → Bool) (xs front left : List ℕ) → xs ≡ front ++ left → All (λ c. true ≡ p c) front → IfSome (slice_get left 0) (λ c. false ≡ p c)
    → (front ≡ run p xs) × (left ≡ behind_run p xs)
run_from_cut p xs [] [] e a s = rw e (refl, refl)
run_from_cut p xs [] (c ∷ cs) e a s = let here : p c ≡ false = sym s in rw (e, here) (refl, refl)
run_from_cut p xs (c ∷ front) left e a s =
    let more = run_from_cut p (front ++ left) front left refl (All-tail (λ d. true ≡ p d) c front a) s in
    let here : p c ≡ true = sym (All-head (λ d. true ≡ p d) c front a) in
    rw (e, here) (ap (λ v. c ∷ v) more.0, more.1)

-- the first character of a run passes the test
pub run-first : (p : ℕ → Bool) (cs ds : List ℕ) (c : ℕ) → run p cs ≡ c ∷ ds → p c ≡ true
run-first p [] ds c e = cc
run-first p (x ∷ cs) ds c e = go (p x) refl e
  where
    go : (b : Bool) → p x ≡ b → cond b (x ∷ run p cs) [] ≡ c ∷ ds → p c ≡ true
    go true h k = let same : x ≡ c = cc in rw (← same) h
    go false h k = cc
