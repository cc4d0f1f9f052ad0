-- What a search knows at its beginning, and at its end.
use Rattle.std.proofs.Common.{◌≡◌, ℕ, ◌<◌, ◌≤◌, ◌⊎◌, List, [], ◌∷◌, ◌++◌, length, get_or, map, set, take, arith, refl, ap, sym, ◌∙◌, subst, inl, inr, append-nil}
use Rattle.std.specs.Prelude.{Contains, replicate}
use Rattle.std.proofs.lemmas.Bool.{cases_lt}
use Rattle.std.proofs.lemmas.List.{get_or-map, get_or-replicate, get_or_past, get_or-take, length-replicate, length-take}
use Rattle.haya_bibtex_inherited.specs.Graphs.{Graph, IsInOrder, IsWhole, Leads, leads_by, leads_nowhere, targets}
use Rattle.haya_bibtex_inherited.specs.Search.{IsSound, arrows_from, place_at, rank_of}
use Rattle.haya_bibtex_inherited.specs.declared.search.Arrow.{Arrow}
use Rattle.haya_bibtex_inherited.specs.declared.search.Place.{Place}
use Rattle.haya_bibtex_inherited.specs.declared.search.Place.TheVariants.{New, Open, Ranked}
use Rattle.haya_bibtex_inherited.proofs.Leaving.{reached_known}
use Rattle.haya_bibtex_inherited.proofs.Sound.{open_sound}

none_of_none : {X : Type 0} (x : X) → Contains [] x → ⊥
none_of_none x c = omega (arith, c.1)

-- ---- the beginning
all_new : (n v : ℕ) → place_at (replicate n New) v ≡ New
all_new n v = elim (cases_lt v n) [
  | inl l ↦ get_or-replicate n v New New l
  | inr l ↦ get_or_past (replicate n New) v New (omega (arith, l, length-replicate n New))
]

not_open : (p : Place) (i : ℕ) → p ≡ New → p ≡ Open i → ⊥
not_open p i e f = cc

not_ranked : (p : Place) (i : ℕ) → p ≡ New → p ≡ Ranked i → ⊥
not_ranked p i e f = cc

both_kinds : (p : Place) (i r : ℕ) → p ≡ Open i → p ≡ Ranked r → ⊥
both_kinds p i r e f = cc

pub start_sound : (g : Graph) (n : ℕ) → IsSound g (replicate n New) [] [] [] []
start_sound g n =
    let opened : (v i : ℕ) → place_at (replicate n New) v ≡ Open i → ⊥ = λ v i e. not_open _ i (all_new n v) e in
    let ranked : (v i : ℕ) → place_at (replicate n New) v ≡ Ranked i → ⊥ = λ v i e. not_ranked _ i (all_new n v) e in
    record {
      on_way = λ i h. absurd (omega (arith, h));
      opened = λ v i e. absurd (opened v i e);
      rising = λ i j h l. absurd (omega (arith, l));
      begun = λ b c. absurd (none_of_none b c);
      grouped = λ i h. absurd (omega (arith, h));
      ahead = λ u v i j e f h. absurd (opened u i e);
      left = λ a c. absurd (none_of_none a c);
      climbing = λ i j h l. absurd (omega (arith, l));
      followed = λ u i w e c. absurd (opened u i e);
      behind = λ u r w e c. absurd (ranked u r e);
      back = λ u v r e f. absurd (ranked u r e);
      ordered = λ v r e. absurd (ranked v r e);
      ranked = λ k h. absurd (omega (arith, h));
    }

-- ---- a first node
pub root_sound : (g : Graph) (ps : List Place) (way starts : List ℕ) (arrows : List Arrow) (order : List ℕ) (v : ℕ)
    → starts ≡ [] → v < length ps → place_at ps v ≡ New → IsSound g ps way starts arrows order
    → IsSound g (set ps v (Open (length way))) (way ++ v ∷ []) (starts ++ length way ∷ []) (arrows ++ arrows_from (length way) (targets g v)) order
root_sound g ps way starts arrows order v none known new s =
    open_sound g ps way starts arrows [] order v known new
    (subst (λ (x : List Arrow). IsSound g ps way starts x order) (sym (append-nil arrows)) s)
    (λ a c. absurd (none_of_none a c))
    (λ u i e.
    let o = s.grouped i (s.opened u i e).0 in
    absurd (none_of_none o.0 (subst (λ (x : List ℕ). Contains x o.0) none o.1)))

-- ---- the end
cases_Place : (p : Place) → (p ≡ New) ⊎ (((i : ℕ) × (p ≡ Open i)) ⊎ ((r : ℕ) × (p ≡ Ranked r)))
cases_Place New = inl refl
cases_Place (Open i) = inr (inl (i, refl))
cases_Place (Ranked r) = inr (inr (r, refl))

rank_at : (ps : List Place) (v r : ℕ) → place_at ps v ≡ Ranked r → get_or (map rank_of ps) v 0 ≡ r
rank_at ps v r e =
    let l : v < length ps = reached_known ps v (λ new. not_ranked _ r new e) in
    get_or-map rank_of ps v New 0 l ∙ ap rank_of e

-- arrows lead to no higher rank
leads_rank : (g : Graph) (ps : List Place) (way starts : List ℕ) (arrows : List Arrow) (order : List ℕ) → IsSound g ps way starts arrows order
    → (a b x : ℕ) → Leads g a b → place_at ps a ≡ Ranked x → (y : ℕ) × (place_at ps b ≡ Ranked y) × (y ≤ x)
leads_rank g ps way starts arrows order s a b x (leads_nowhere i) e = (x, e, omega arith)
leads_rank g ps way starts arrows order s a b x (leads_by i j k m l) e =
    let o = s.behind i x j e m in
    let le : o.0 ≤ x = elim o.2 [ inl f ↦ omega (arith, f) | inr f ↦ omega (arith, f.0) ] in
    let q = leads_rank g ps way starts arrows order s j k o.0 l o.1 in
    (q.0, q.1, omega (arith, le, q.2))

contains_take : (xs : List ℕ) (m n x : ℕ) → m ≤ n → Contains (take m xs) x → Contains (take n xs) x
contains_take xs m n x le c =
    let long : c.0 < length (take m xs) = c.1 in
    let a : c.0 < m = omega (arith, long, length-take m xs) in
    let b : c.0 < n = omega arith in
    (c.0, omega (arith, long, le, length-take m xs, length-take n xs), get_or-take n xs c.0 x b ∙ sym (get_or-take m xs c.0 x a) ∙ c.2)

pub in_order : (g : Graph) (ps : List Place) (way starts : List ℕ) (arrows : List Arrow) (order : List ℕ) → length ps ≡ length g → IsWhole g
    → IsSound g ps way starts arrows order → starts ≡ [] → ((v : ℕ) → v < length g → place_at ps v ≡ New → ⊥)
    → IsInOrder g (map rank_of ps) order
in_order g ps way starts arrows order long whole s none reached =
    let ranked : (v : ℕ) → v < length g → (r : ℕ) × (place_at ps v ≡ Ranked r) = λ v l.
    elim (cases_Place (place_at ps v)) [
      | inl e ↦ absurd (reached v l e)
      | inr e ↦ elim e [
        | inl f ↦
            let o = s.grouped f.0 (s.opened v f.0 f.1).0 in
            absurd (none_of_none o.0 (subst (λ (x : List ℕ). Contains x o.0) none o.1))
        | inr f ↦ f
      ]
    ] in
    record {
      all = λ i l. let o = ranked i l in (s.ordered i o.0 o.1).0;
      known = λ k l.
          let o = s.ranked k l in
          let h = reached_known ps (get_or order k 0) (λ new. not_ranked _ o.0 new o.1) in
          omega (arith, h, long);
      behind = λ k j l c other.
          let o = s.ranked k l in
          let w = s.behind (get_or order k 0) o.0 j o.1 c in
          elim w.2 [
            | inl same ↦ absurd (other (rank_at ps j w.0 w.1 ∙ same ∙ sym (rank_at ps (get_or order k 0) o.0 o.1)))
            | inr less ↦ contains_take order o.0 k j o.2 less.1
          ];
      back = λ i j l c.
          let o = ranked i l in
          let w = s.behind i o.0 j o.1 c in
          let at_i = rank_at ps i o.0 o.1 in
          let at_j = rank_at ps j w.0 w.1 in (
            λ e.
                let same : w.0 ≡ o.0 = sym at_j ∙ e ∙ at_i in
                s.back j i o.0 (subst (λ (r : ℕ). place_at ps j ≡ Ranked r) same w.1) o.1,
            λ h.
                let q = leads_rank g ps way starts arrows order s j i w.0 h w.1 in
                let same : q.0 ≡ o.0 = same_rank _ q.0 o.0 q.1 o.1 in
                let le : w.0 ≤ o.0 = elim w.2 [ inl f ↦ omega (arith, f) | inr f ↦ omega (arith, f.0) ] in
                omega (arith, at_i, at_j, q.2, same, le),
          );
    }
  where
    same_rank : (p : Place) (x y : ℕ) → p ≡ Ranked x → p ≡ Ranked y → x ≡ y
    same_rank p x y e f = cc
