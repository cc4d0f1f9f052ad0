-- What a search knows once it has left the last group.
use Rattle.std.proofs.Common.{◌≡◌, ℕ, ◌+◌, ◌-◌, ◌<◌, ◌≤◌, ◌⊎◌, cond, List, [], ◌∷◌, ◌++◌, length, get_or, map, take, drop, reverse, arith, refl, ap, sym, ◌∙◌, subst, inl, inr}
use Rattle.std.specs.Prelude.{Contains}
use Rattle.std.proofs.lemmas.Bool.{cases_lt, le-leb, lt-leb}
use Rattle.std.proofs.lemmas.List.{get_or_append_left, get_or_default, get_or-append_right, length-append, length-reverse, length-drop, length-take-le, get_or-take, get_or-drop, get_or-reverse, get_or-map, length-map, take-append-le, take_at}
use Rattle.std.proofs.lemmas.List.Elements.{Contains-append_left, Contains-append_right, Contains-push, Contains-push_cases, Contains-get_or}
use Rattle.haya_bibtex_inherited.specs.Graphs.{Graph}
use Rattle.haya_bibtex_inherited.specs.Search.{IsClimbing, IsSound, NoneBetween, arrow, last_arrow, place_at, settled_place}
use Rattle.haya_bibtex_inherited.specs.declared.search.Arrow.{Arrow}
use Rattle.haya_bibtex_inherited.specs.declared.search.Place.{Place}
use Rattle.haya_bibtex_inherited.specs.declared.search.Place.TheVariants.{New, Open, Ranked}
use Rattle.haya_bibtex_inherited.proofs.Cutting.{below_last, rising_front}
use Rattle.haya_bibtex_inherited.proofs.Sound.{open_same, ranked_same}

-- ---- places
settled_below : (s r i : ℕ) (p : Place) → p ≡ Open i → i < s → settled_place s r p ≡ Open i
settled_below s r i p e l = ap (settled_place s r) e ∙ ap (λ b. cond b (Ranked r) (Open i)) (lt-leb s i l)

settled_above : (s r i : ℕ) (p : Place) → p ≡ Open i → s ≤ i → settled_place s r p ≡ Ranked r
settled_above s r i p e l = ap (settled_place s r) e ∙ ap (λ b. cond b (Ranked r) (Open i)) (le-leb s i l)

settled_stays : (s r q : ℕ) (p : Place) → p ≡ Ranked q → settled_place s r p ≡ Ranked q
settled_stays s r q p e = ap (settled_place s r) e

settled_open : (s r i : ℕ) (p : Place) → settled_place s r p ≡ Open i → (p ≡ Open i) × (i < s)
settled_open s r i New e = absurd (cc)
settled_open s r i (Open k) e = elim (cases_lt k s) [
  | inl l ↦
      let f : Open k ≡ Open i = sym (settled_below s r k (Open k) refl l) ∙ e in
      (f, subst (λ (x : ℕ). x < s) (open_same k i refl f) l)
  | inr l ↦ let f : Ranked r ≡ Open i = sym (settled_above s r k (Open k) refl l) ∙ e in absurd (cc)
]
settled_open s r i (Ranked q) e = absurd (cc)

settled_ranked : (s r q : ℕ) (p : Place) → settled_place s r p ≡ Ranked q → (p ≡ Ranked q) ⊎ ((r ≡ q) × ((i : ℕ) × (p ≡ Open i) × (s ≤ i)))
settled_ranked s r q New e = absurd (cc)
settled_ranked s r q (Open k) e = elim (cases_lt k s) [
  | inl l ↦ let f : Open k ≡ Ranked q = sym (settled_below s r k (Open k) refl l) ∙ e in absurd (cc)
  | inr l ↦
      let f : Ranked r ≡ Ranked q = sym (settled_above s r k (Open k) refl l) ∙ e in
      inr (ranked_same r q refl f, (k, refl, l))
]
settled_ranked s r q (Ranked k) e = inl e

-- ---- the nodes that it leaves
contains_reverse : (xs : List ℕ) (k : ℕ) → k < length xs → Contains (reverse xs) (get_or xs k 0)
contains_reverse xs k l =
    let m = length xs - 1 - k in
    let n : m < length xs = omega arith in
    let n' : m < length (reverse xs) = omega (arith, length-reverse xs) in
    let e : length xs - 1 - m ≡ k = omega arith in
    subst (λ (x : ℕ). Contains (reverse xs) x) (get_or-reverse xs m 0 n ∙ ap (λ i. get_or xs i 0) e) (Contains-get_or (reverse xs) m 0 n')

left_has : (way : List ℕ) (s i : ℕ) → s ≤ i → i < length way → Contains (reverse (drop s way)) (get_or way i 0)
left_has way s i h l =
    let m = i - s in
    let n : m < length (drop s way) = omega (arith, length-drop s way) in
    let e : s + m ≡ i = omega arith in
    subst (λ (x : ℕ). Contains (reverse (drop s way)) x) (get_or-drop s way m 0 ∙ ap (λ i. get_or way i 0) e) (contains_reverse (drop s way) m n)

left_is : (way : List ℕ) (s k : ℕ) → k < length (reverse (drop s way)) → (i : ℕ) × (s ≤ i) × (i < length way) × (get_or (reverse (drop s way)) k 0 ≡ get_or way i 0)
left_is way s k h =
    let ds = drop s way in
    let l : k < length ds = omega (arith, length-reverse ds) in
    let m = length ds - 1 - k in
    (s + m, omega arith, omega (arith, length-drop s way), get_or-reverse ds k 0 l ∙ get_or-drop s way m 0)

-- where the last arrow is from before a place, all are
pub all_below : (arrows : List Arrow) (s : ℕ) → IsClimbing (map (λ a. a.from) arrows) → (0 < length arrows → (last_arrow arrows).from < s) → (a : Arrow) → Contains arrows a → a.from < s
all_below arrows s up last a c =
    let d = arrow 0 0 in
    let m = length arrows - 1 in
    let some : 0 < length arrows = omega (arith, c.1) in
    let is : (get_or arrows c.0 d).from ≡ a.from = ap (λ x. x.from) (get_or_default arrows c.0 d a c.1 ∙ c.2) in
    let l : (get_or arrows m d).from < s = last some in
    elim (cases_lt c.0 m) [
      | inl k ↦
          let in_m : m < length arrows = omega arith in
          let at_c = get_or-map (λ a. a.from) arrows c.0 d 0 c.1 in
          let at_m = get_or-map (λ a. a.from) arrows m d 0 in_m in
          let le = up c.0 m k (omega (arith, length-map arrows (λ a. a.from), in_m)) in
          omega (arith, le, at_c, at_m, is, l)
      | inr k ↦
          let e : c.0 ≡ m = omega (arith, c.1) in
          let l' = subst (λ (i : ℕ). (get_or arrows i d).from < s) (sym e) l in
          omega (arith, l', is)
    ]

pub leave_sound : (g : Graph) (ps ps' : List Place) (way starts : List ℕ) (arrows : List Arrow) (order : List ℕ) (start : ℕ)
    → IsSound g ps way (starts ++ start ∷ []) arrows order → ((a : Arrow) → Contains arrows a → a.from < start)
    → ((v : ℕ) → place_at ps' v ≡ settled_place start (length order) (place_at ps v))
    → IsSound g ps' (take start way) starts arrows (order ++ reverse (drop start way))
leave_sound g ps ps' way starts arrows order start s none is =
    let r = length order in
    let zs = reverse (drop start way) in
    let long : start < length way = s.begun start (Contains-push starts start) in
    let short : length (take start way) ≡ start = length-take-le start way (omega arith) in
    let at : (i : ℕ) → i < start → get_or (take start way) i 0 ≡ get_or way i 0 = λ i l. get_or-take start way i 0 l in
    let was_open : (v i : ℕ) → place_at ps' v ≡ Open i → (place_at ps v ≡ Open i) × (i < start) = λ v i e. settled_open start r i (place_at ps v) (sym (is v) ∙ e) in
    let was_ranked : (v q : ℕ) → place_at ps' v ≡ Ranked q → (place_at ps v ≡ Ranked q) ⊎ ((r ≡ q) × ((i : ℕ) × (place_at ps v ≡ Open i) × (start ≤ i))) = λ v q e. settled_ranked start r q (place_at ps v) (sym (is v) ∙ e) in
    let stays : (v q : ℕ) → place_at ps v ≡ Ranked q → place_at ps' v ≡ Ranked q = λ v q e. is v ∙ settled_stays start r q (place_at ps v) e in
    let above : (v i : ℕ) → place_at ps v ≡ Open i → start ≤ i → place_at ps' v ≡ Ranked r = λ v i e l. is v ∙ settled_above start r i (place_at ps v) e l in
    let below : (v i : ℕ) → place_at ps v ≡ Open i → i < start → place_at ps' v ≡ Open i = λ v i e l. is v ∙ settled_below start r i (place_at ps v) e l in
    let last : (b : ℕ) → Contains (starts ++ start ∷ []) b → b ≤ start = λ b c. elim (Contains-push_cases starts start b c) [
      | inl d ↦ let l = below_last starts start b s.rising d in omega arith
      | inr d ↦ omega arith
    ] in
    let before : (b : ℕ) → Contains starts b → b < start = λ b c. below_last starts start b s.rising c in
    let more : (b : ℕ) → Contains starts b → Contains (starts ++ start ∷ []) b = λ b c. Contains-append_left starts (start ∷ []) b c in
    let none_more : (i j : ℕ) → i < start → NoneBetween starts j i → NoneBetween (starts ++ start ∷ []) j i = λ i j l h b c x y.
    elim (Contains-push_cases starts start b c) [ inl d ↦ h b d x y | inr d ↦ absurd (omega arith) ] in
    let old_rank : (v q : ℕ) → place_at ps v ≡ Ranked q → q < r = λ v q e. (s.ordered v q e).1 in
    record {
      on_way = λ i h. let l : i < start = omega arith in rw (at i l) (below (get_or way i 0) i (s.on_way i (omega arith)) l);
      opened = λ v i e.
          let w = was_open v i e in
          (omega (arith, w.1, short), at i w.1 ∙ (s.opened v i w.0).1);
      rising = rising_front starts start s.rising;
      begun = λ b c. omega (arith, before b c, short);
      grouped = λ i h.
          let o = s.grouped i (omega arith) in
          elim (Contains-push_cases starts start o.0 o.1) [
            | inl d ↦ (o.0, d, o.2)
            | inr d ↦ absurd (omega (arith, o.2, h, short, d))
          ];
      ahead = λ u v i j e f h.
          let x = was_open u i e in
          s.ahead u v i j x.0 (was_open v j f).0 (none_more i j x.1 h);
      left = λ a c.
          let o = s.left a c in
          let l = none a c in
          (omega arith, rw (at a.from l) o.1);
      climbing = s.climbing;
      followed = λ u i w e c.
          let x = was_open u i e in
          elim (s.followed u i w x.0 c) [
            | inl d ↦ inl d
            | inr d ↦ elim d [
              | inl y ↦ inr (inl (y.0, stays w y.0 y.1))
              | inr y ↦ elim (cases_lt y.0 start) [
                | inl l ↦ inr (inr (y.0, below w y.0 y.1 l, λ b z. y.2 b (more b z)))
                | inr l ↦ inr (inl (r, above w y.0 y.1 l))
              ]
            ]
          ];
      behind = λ u q w e c. elim (was_ranked u q e) [
        | inl x ↦
            let o = s.behind u q w x c in
            let l : q ≤ length order = omega (arith, old_rank u q x) in
            (o.0, stays w o.0 o.1, elim o.2 [ inl y ↦ inl y | inr y ↦ inr (y.0, rw (take-append-le q order zs l) y.1) ])
        | inr x ↦
            let i = x.1.0 in
            elim (s.followed u i w x.1.1 c) [
              | inl d ↦ let l = none (arrow i w) d in absurd (omega (arith, l, x.1.2))
              | inr d ↦ elim d [
                | inl y ↦
                    let l = old_rank w y.0 y.1 in
                    (y.0, stays w y.0 y.1, inr (omega (arith, l, x.0), rw (← x.0, take_at order zs r refl) (s.ordered w y.0 y.1).0))
                | inr y ↦ elim (cases_lt y.0 start) [
                  | inl l ↦ absurd (y.2 start (Contains-push starts start) l x.1.2)
                  | inr l ↦ (r, above w y.0 y.1 l, inl x.0)
                ]
              ]
            ]
      ];
      back = λ u v q e f. elim (was_ranked u q e) [
        | inl x ↦ elim (was_ranked v q f) [
          | inl y ↦ s.back u v q x y
          | inr y ↦ let l = old_rank u q x in absurd (omega (arith, l, y.0))
        ]
        | inr x ↦ elim (was_ranked v q f) [
          | inl y ↦ let l = old_rank v q y in absurd (omega (arith, l, x.0))
          | inr y ↦ s.ahead u v x.1.0 y.1.0 x.1.1 y.1.1 (λ b c z t. let l = last b c in omega (arith, l, y.1.2, z))
        ]
      ];
      ordered = λ v q e. elim (was_ranked v q e) [
        | inl x ↦
            let o = s.ordered v q x in
            (Contains-append_left order zs v o.0, omega (arith, o.1, length-append order zs))
        | inr x ↦
            let o = s.opened v x.1.0 x.1.1 in (
              Contains-append_right order zs v (subst (λ (y : ℕ). Contains zs y) o.1 (left_has way start x.1.0 x.1.2 o.0)),
              omega (arith, length-append order zs, length-reverse (drop start way), length-drop start way, x.0),
            )
      ];
      ranked = λ k h. elim (cases_lt k r) [
        | inl l ↦
            let o = s.ranked k l in
            (o.0, rw (get_or_append_left order zs 0 k l) (stays (get_or order k 0) o.0 o.1), o.2)
        | inr l ↦
            let m : k - r < length zs = omega (arith, length-append order zs) in
            let o = left_is way start (k - r) m in
            (r, rw (get_or-append_right order zs r k 0 refl l, o.3) (above (get_or way o.0 0) o.0 (s.on_way o.0 o.2) o.1), l)
      ];
    }
