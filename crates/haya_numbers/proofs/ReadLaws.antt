-- What a list of results collects to.
use Rattle.std.proofs.Common.{◌≡◌, List, [], ◌∷◌, ◌++◌, map, refl, ap, ◌∙◌, Result, Ok, Err}
use Rattle.std.specs.Result.{result_map_both}
use Rattle.haya_numbers.specs.PagesReading.{collect, IsFirstFault}

module _ {V E : Type 0} where
  pub collect-all : (vs : List V) → collect {E = E} (map (λ v. Ok v) vs) ≡ Ok vs
  collect-all [] = refl
  collect-all (v ∷ vs) = rw (collect-all vs) refl

  pub all-collected : (rs : List (Result V E)) (vs : List V) → collect rs ≡ Ok vs → rs ≡ map (λ v. Ok v) vs
  all-collected [] [] h = refl
  all-collected [] (v ∷ vs) h = cc
  all-collected (Err e ∷ rs) vs h = cc
  all-collected (Ok v ∷ rs) vs h = by (collect rs) refl h (λ ws. all-collected rs ws)
    where
      by : (r : Result (List V) E) → collect rs ≡ r → result_map_both (λ ws. v ∷ ws) (λ e. e) r ≡ Ok vs → ((ws : List V) → collect rs ≡ Ok ws → rs ≡ map (λ w. Ok w) ws) → Ok v ∷ rs ≡ map (λ w. Ok w) vs
      by (Ok ws) s g rest = let e : v ∷ ws ≡ vs = cc in rw (← e) (ap (λ l. Ok v ∷ l) (rest ws s))
      by (Err e) s g rest = cc

  collect-fault : (vs : List V) (e : E) (rest : List (Result V E)) → collect (map (λ v. Ok v) vs ++ Err e ∷ rest) ≡ Err e
  collect-fault [] e rest = refl
  collect-fault (v ∷ vs) e rest = rw (collect-fault vs e rest) refl

  pub first-fault : (rs : List (Result V E)) (e : E) → IsFirstFault rs e → collect rs ≡ Err e
  first-fault rs e f = ap collect f.is ∙ collect-fault f.before e f.behind

  pub fault-first : (rs : List (Result V E)) (e : E) → collect rs ≡ Err e → IsFirstFault rs e
  fault-first [] e h = absurd (let g : ⊥ = cc in g)
  fault-first (Err d ∷ rs) e h = let same : d ≡ e = cc in record { before = []; behind = rs; is = ap (λ x. Err x ∷ rs) same }
  fault-first (Ok v ∷ rs) e h = by (collect rs) refl h (fault-first rs e)
    where
      by : (r : Result (List V) E) → collect rs ≡ r → result_map_both (λ ws. v ∷ ws) (λ d. d) r ≡ Err e → (collect rs ≡ Err e → IsFirstFault rs e) → IsFirstFault (Ok v ∷ rs) e
      by (Ok ws) s g rest = absurd (let g' : ⊥ = cc in g')
      by (Err d) s g rest =
          let same : d ≡ e = cc in
          let f = rest (s ∙ ap (λ x. Err x) same) in
          record { before = v ∷ f.before; behind = f.behind; is = ap (λ l. Ok v ∷ l) f.is }
