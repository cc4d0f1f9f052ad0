-- What a search knows stays true at each of its steps.
use Rattle.std.proofs.Common.{◌≡◌, ◌≢◌, ℕ, ◌<◌, ◌≤◌, ◌⊎◌, List, [], ◌∷◌, ◌++◌, length, get_or, map, set, arith, refl, ap, sym, ◌∙◌, subst, inl, inr}
use Rattle.std.specs.Prelude.{Contains}
use Rattle.std.proofs.lemmas.Bool.{cases_lt, cases_eq}
use Rattle.std.proofs.lemmas.List.{get_or_append_left, get_or_push, length_push, get_or-set_same, get_or-set_other, get_or-append_right, length-append, length-map, get_or-map, map-append}
use Rattle.std.proofs.lemmas.List.Elements.{Contains-append_left, Contains-append_right, Contains-push, Contains-push_cases, Contains-append_cases, Contains-get_or}
use Rattle.haya_bibtex_inherited.specs.Graphs.{Graph, IsWhole, Leads, leads_by, leads_nowhere, targets}
use Rattle.haya_bibtex_inherited.specs.Search.{IsClimbing, IsCutBack, IsRising, IsSound, NoneBetween, arrow, arrows_from, place_at}
use Rattle.haya_bibtex_inherited.specs.declared.search.Arrow.{Arrow}
use Rattle.haya_bibtex_inherited.specs.declared.search.Place.{Place}
use Rattle.haya_bibtex_inherited.specs.declared.search.Place.TheVariants.{New, Open, Ranked}

-- ---- places
open_ranked : {p : Place} (i r : ℕ) → p ≡ Open i → p ≡ Ranked r → ⊥
open_ranked i r e f = cc

new_open : {p : Place} (i : ℕ) → p ≡ New → p ≡ Open i → ⊥
new_open i e f = cc

new_ranked : {p : Place} (r : ℕ) → p ≡ New → p ≡ Ranked r → ⊥
new_ranked r e f = cc

pub open_same : {p : Place} (i j : ℕ) → p ≡ Open i → p ≡ Open j → i ≡ j
open_same i j e f = cc

pub ranked_same : {p : Place} (i j : ℕ) → p ≡ Ranked i → p ≡ Ranked j → i ≡ j
ranked_same i j e f = cc

-- the place of a node once another's is written: its own, or what it was
set_cases : (ps : List Place) (v u : ℕ) (p q : Place) → v < length ps → place_at (set ps v p) u ≡ q
    → ((u ≡ v) × (p ≡ q)) ⊎ ((u ≢ v) × (place_at ps u ≡ q))
set_cases ps v u p q known e =
    elim (cases_eq u v) [
      | inl same ↦ inl (same, sym (get_or-set_same ps v p New known) ∙ sym (ap (λ x. place_at (set ps v p) x) same) ∙ e)
      | inr other ↦ inr (other, sym (get_or-set_other ps v u p New other) ∙ e)
    ]

set_kept : (ps : List Place) (v u : ℕ) (p q : Place) → place_at ps v ≡ New → (New ≡ q → ⊥) → place_at ps u ≡ q → place_at (set ps v p) u ≡ q
set_kept ps v u p q new some e =
    get_or-set_other ps v u p New (λ same. some (sym new ∙ sym (ap (λ x. place_at ps x) same) ∙ e)) ∙ e

-- ---- lists of numbers
at_contains : (xs : List ℕ) (i : ℕ) → i < length xs → Contains xs (get_or xs i 0)
at_contains xs i h = Contains-get_or xs i 0 h

rising_push : (xs : List ℕ) (n : ℕ) → IsRising xs → ((b : ℕ) → Contains xs b → b < n) → IsRising (xs ++ n ∷ [])
rising_push xs n up below i j h l =
    elim (cases_lt j (length xs)) [
      | inl k ↦
          let m : i < length xs = omega arith in
          rw (get_or_append_left xs (n ∷ []) 0 j k, get_or_append_left xs (n ∷ []) 0 i m) (up i j h k)
      | inr k ↦
          let e : length xs ≡ j = omega (arith, length_push xs n) in
          let m : i < length xs = omega arith in
          rw (get_or_push xs n 0 j e, get_or_append_left xs (n ∷ []) 0 i m) (below (get_or xs i 0) (at_contains xs i m))
    ]

climbing_append : (xs ys : List ℕ) (n : ℕ) → IsClimbing xs → ((i : ℕ) → i < length xs → get_or xs i 0 ≤ n) → ((i : ℕ) → i < length ys → get_or ys i 0 ≡ n) → IsClimbing (xs ++ ys)
climbing_append xs ys n up below same i j h l =
    let long = length-append xs ys in
    elim (cases_lt j (length xs)) [
      | inl k ↦
          let m : i < length xs = omega arith in
          rw (get_or_append_left xs ys 0 j k, get_or_append_left xs ys 0 i m) (up i j h k)
      | inr k ↦
          let at : get_or (xs ++ ys) j 0 ≡ n = get_or-append_right xs ys (length xs) j 0 refl k ∙ same _ (omega arith) in
          elim (cases_lt i (length xs)) [
            | inl m ↦ rw (at, get_or_append_left xs ys 0 i m) (below i m)
            | inr m ↦
                let at' : get_or (xs ++ ys) i 0 ≡ n = get_or-append_right xs ys (length xs) i 0 refl m ∙ same _ (omega arith) in
                rw (at, at') (omega arith)
          ]
    ]

climbing_front : (xs ys : List ℕ) → IsClimbing (xs ++ ys) → IsClimbing xs
climbing_front xs ys up i j h k =
    let m : i < length xs = omega arith in
    let l : j < length (xs ++ ys) = omega (arith, length-append xs ys) in
    rw (← get_or_append_left xs ys 0 j k, ← get_or_append_left xs ys 0 i m) (up i j h l)

-- ---- arrows
abbrev froms : List Arrow → List ℕ
froms xs = map (λ a. a.from) xs

-- an arrow from a node leads to one of its targets
from_cases : (i : ℕ) (ws : List ℕ) (a : Arrow) → Contains (arrows_from i ws) a → (a.from ≡ i) × Contains ws a.to
from_cases i ws a c =
    let l : c.0 < length ws = omega (arith, c.1, length-map ws (arrow i)) in
    let e : arrow i (get_or ws c.0 0) ≡ a = sym (get_or-map (arrow i) ws c.0 0 a l) ∙ c.2 in
    (ap (λ x. x.from) (sym e), subst (λ (x : ℕ). Contains ws x) (ap (λ x. x.to) e) (at_contains ws c.0 l))

from_target : (i : ℕ) (ws : List ℕ) (w : ℕ) → Contains ws w → Contains (arrows_from i ws) (arrow i w)
from_target i ws w c =
    let l : c.0 < length (arrows_from i ws) = omega (arith, c.1, length-map ws (arrow i)) in
    (c.0, l, get_or-map (arrow i) ws c.0 w (arrow i w) c.1 ∙ ap (arrow i) c.2)

-- what holds of the places of arrows holds at each
froms_at : (P : ℕ → Type 0) (arrows : List Arrow) → ((a : Arrow) → Contains arrows a → P a.from) → (i : ℕ) → i < length (froms arrows) → P (get_or (froms arrows) i 0)
froms_at P arrows all i h =
    let l : i < length arrows = omega (arith, length-map arrows (λ a. a.from)) in
    subst P (sym (get_or-map (λ a. a.from) arrows i (arrow 0 0) 0 l)) (all (get_or arrows i (arrow 0 0)) (Contains-get_or arrows i (arrow 0 0) l))

climbing_less : (arrows bs : List Arrow) → IsClimbing (froms (arrows ++ bs)) → IsClimbing (froms arrows)
climbing_less arrows bs up = climbing_front (froms arrows) (froms bs) (subst IsClimbing (map-append (λ a. a.from) arrows bs) up)

-- ---- a node is opened
pub open_sound : (g : Graph) (ps : List Place) (way starts : List ℕ) (arrows hand : List Arrow) (order : List ℕ) (v : ℕ)
    → v < length ps → place_at ps v ≡ New → IsSound g ps way starts (arrows ++ hand) order
    → ((a : Arrow) → Contains hand a → a.to ≡ v) → ((u i : ℕ) → place_at ps u ≡ Open i → Leads g u v)
    → IsSound g (set ps v (Open (length way))) (way ++ v ∷ []) (starts ++ length way ∷ []) (arrows ++ arrows_from (length way) (targets g v)) order
open_sound g ps way starts arrows hand order v known new s to_v leads =
    let n = length way in
    let ps' = set ps v (Open n) in
    let here : place_at ps' v ≡ Open n = get_or-set_same ps v (Open n) New known in
    let kept : (u : ℕ) (q : Place) → (New ≡ q → ⊥) → place_at ps u ≡ q → place_at ps' u ≡ q = λ u q some e. set_kept ps v u (Open n) q new some e in
    let cases : (u : ℕ) (q : Place) → place_at ps' u ≡ q → ((u ≡ v) × (Open n ≡ q)) ⊎ ((u ≢ v) × (place_at ps u ≡ q)) = λ u q e. set_cases ps v u (Open n) q known e in
    let was_ranked : (u r : ℕ) → place_at ps' u ≡ Ranked r → place_at ps u ≡ Ranked r = λ u r e.
    elim (cases u (Ranked r) e) [ inl h ↦ absurd (open_ranked n r refl h.1) | inr h ↦ h.1 ] in
    let more : (b : ℕ) → Contains starts b → Contains (starts ++ n ∷ []) b = λ b c. Contains-append_left starts (n ∷ []) b c in
    let none : (i j : ℕ) → i < n → NoneBetween starts j i → NoneBetween (starts ++ n ∷ []) j i = λ i j l h b c a z.
    elim (Contains-push_cases starts n b c) [ inl d ↦ h b d a z | inr e ↦ absurd (omega arith) ] in
    record {
      on_way = λ i h. elim (cases_lt i n) [
        | inl l ↦ rw (get_or_append_left way (v ∷ []) 0 i l) (kept (get_or way i 0) (Open i) (λ e. new_open i refl e) (s.on_way i l))
        | inr l ↦
            let e : n ≡ i = omega (arith, length_push way v) in
            rw (get_or_push way v 0 i e) (here ∙ ap Open e)
      ];
      opened = λ u i e. elim (cases u (Open i) e) [
        | inl h ↦
            let same : n ≡ i = open_same n i refl h.1 in
            (omega (arith, length_push way v), get_or_push way v 0 i same ∙ sym h.0)
        | inr h ↦
            let old = s.opened u i h.1 in
            (omega (arith, old.0, length_push way v), get_or_append_left way (v ∷ []) 0 i old.0 ∙ old.1)
      ];
      rising = rising_push starts n s.rising s.begun;
      begun = λ b c. elim (Contains-push_cases starts n b c) [
        | inl d ↦ omega (arith, s.begun b d, length_push way v)
        | inr e ↦ omega (arith, length_push way v)
      ];
      grouped = λ i h. elim (cases_lt i n) [
        | inl l ↦ let o = s.grouped i l in (o.0, more o.0 o.1, o.2)
        | inr l ↦ (n, Contains-push starts n, l)
      ];
      ahead = λ u w i j e f h. elim (cases u (Open i) e) [
        | inl x ↦
            let is : n ≡ i = open_same n i refl x.1 in
            elim (cases w (Open j) f) [
              | inl y ↦ rw (x.0, y.0) (leads_nowhere v)
              | inr y ↦ absurd (h n (Contains-push starts n) (s.opened w j y.1).0 (omega arith))
            ]
        | inr x ↦ elim (cases w (Open j) f) [
          | inl y ↦ rw (y.0) (leads u i x.1)
          | inr y ↦ s.ahead u w i j x.1 y.1 (λ b c. h b (more b c))
        ]
      ];
      left = λ a c. elim (Contains-append_cases arrows (arrows_from n (targets g v)) a c) [
        | inl d ↦
            let old = s.left a (Contains-append_left arrows hand a d) in
            (omega (arith, old.0, length_push way v), rw (get_or_append_left way (v ∷ []) 0 a.from old.0) old.1)
        | inr d ↦
            let is = from_cases n (targets g v) a d in
            let e : n ≡ a.from = sym is.0 in
            (omega (arith, length_push way v), rw (get_or_push way v 0 a.from e) is.1)
      ];
      climbing =
          let new_ones = arrows_from n (targets g v) in
          subst IsClimbing (sym (map-append (λ a. a.from) arrows new_ones))
          (climbing_append (froms arrows) (froms new_ones) n (climbing_less arrows hand s.climbing)
          (froms_at (λ x. x ≤ n) arrows (λ a c. let l = (s.left a (Contains-append_left arrows hand a c)).0 in omega arith))
          (froms_at (λ x. x ≡ n) new_ones (λ a c. (from_cases n (targets g v) a c).0)));
      followed = λ u i w e c. elim (cases u (Open i) e) [
        | inl h ↦
            let same : n ≡ i = open_same n i refl h.1 in
            let t : Contains (targets g v) w = subst (λ (x : ℕ). Contains (targets g x) w) h.0 c in
            inl (Contains-append_right arrows (arrows_from n (targets g v)) (arrow i w)
            (subst (λ (x : ℕ). Contains (arrows_from n (targets g v)) (arrow x w)) same (from_target n (targets g v) w t)))
        | inr h ↦
            let i_in : i < n = (s.opened u i h.1).0 in
            elim (s.followed u i w h.1 c) [
              | inl d ↦ elim (Contains-append_cases arrows hand (arrow i w) d) [
                | inl x ↦ inl (Contains-append_left arrows (arrows_from n (targets g v)) (arrow i w) x)
                | inr x ↦
                    let is : w ≡ v = to_v (arrow i w) x in
                    inr (inr (
                      n,
                      rw is here,
                      λ b y a z. elim (Contains-push_cases starts n b y) [
                        | inl o ↦ let l = s.begun b o in absurd (omega arith)
                        | inr o ↦ absurd (omega arith)
                      ],
                    ))
              ]
              | inr d ↦ elim d [
                | inl x ↦ inr (inl (x.0, kept w (Ranked x.0) (λ z. new_ranked x.0 refl z) x.1))
                | inr x ↦ inr (inr (x.0, kept w (Open x.0) (λ z. new_open x.0 refl z) x.1, none i x.0 i_in x.2))
              ]
            ]
      ];
      behind = λ u r w e c.
          let o = s.behind u r w (was_ranked u r e) c in
          (o.0, kept w (Ranked o.0) (λ z. new_ranked o.0 refl z) o.1, o.2);
      back = λ u w r e f. s.back u w r (was_ranked u r e) (was_ranked w r f);
      ordered = λ u r e. s.ordered u r (was_ranked u r e);
      ranked = λ k h.
          let o = s.ranked k h in
          (o.0, kept (get_or order k 0) (Ranked o.0) (λ z. new_ranked o.0 refl z) o.1, o.2);
    }

-- ---- an arrow is followed to an open node
pub leads_trans : (g : Graph) (a b c : ℕ) → Leads g a b → Leads g b c → Leads g a c
leads_trans g a b c (leads_nowhere i) t = t
leads_trans g a b c (leads_by i j k m l) t = leads_by i j c m (leads_trans g j k c l t)

one_arrow : (a b : Arrow) → Contains (a ∷ []) b → a ≡ b
one_arrow a b c =
    let z : c.0 ≡ 0 = omega (arith, c.1) in
    subst (λ (k : ℕ). get_or (a ∷ []) k b ≡ b) z c.2

-- it leads to a node
pub arrow_known : (g : Graph) (ps : List Place) (way starts : List ℕ) (arrows : List Arrow) (order : List ℕ) (a : Arrow)
    → IsWhole g → IsSound g ps way starts (arrows ++ a ∷ []) order → a.to < length g
arrow_known g ps way starts arrows order a whole s = whole (get_or way a.from 0) a.to (s.left a (Contains-push arrows a)).1

pub new_sound : (g : Graph) (ps : List Place) (way starts : List ℕ) (arrows : List Arrow) (order : List ℕ) (a : Arrow)
    → IsSound g ps way starts (arrows ++ a ∷ []) order → a.to < length ps → place_at ps a.to ≡ New → ((b : ℕ) → Contains starts b → b ≤ a.from)
    → IsSound g (set ps a.to (Open (length way))) (way ++ a.to ∷ []) (starts ++ length way ∷ []) (arrows ++ arrows_from (length way) (targets g a.to)) order
new_sound g ps way starts arrows order a s known new last =
    let of_a = s.left a (Contains-push arrows a) in
    let node = get_or way a.from 0 in
    let there : place_at ps node ≡ Open a.from = s.on_way a.from of_a.0 in
    open_sound g ps way starts arrows (a ∷ []) order a.to known new s (λ b c. ap (λ x. x.to) (sym (one_arrow a b c)))
    (λ u i e. leads_trans g u node a.to (s.ahead u node i a.from e there (λ b c x y. let z = last b c in omega arith))
    (leads_by node a.to a.to of_a.1 (leads_nowhere a.to)))

pub join_sound : (g : Graph) (ps : List Place) (way starts starts' : List ℕ) (arrows : List Arrow) (order : List ℕ) (a : Arrow) (j : ℕ)
    → IsSound g ps way starts (arrows ++ a ∷ []) order → place_at ps a.to ≡ Open j → ((b : ℕ) → Contains starts b → b ≤ a.from)
    → IsCutBack starts j starts' → IsSound g ps way starts' arrows order
join_sound g ps way starts starts' arrows order a j s there last cut =
    let of_a = s.left a (Contains-push arrows a) in
    let node = get_or way a.from 0 in
    let open_a : place_at ps node ≡ Open a.from = s.on_way a.from of_a.0 in
    record {
      on_way = s.on_way;
      opened = s.opened;
      rising = cut.rising;
      begun = λ b c. s.begun b (cut.only b c).0;
      grouped = λ i h.
          let o = s.grouped i h in
          elim (cases_lt j o.0) [
            | inl l ↦ let q = s.grouped j (s.opened a.to j there).0 in (q.0, cut.kept q.0 q.1 q.2, omega (arith, q.2, o.2))
            | inr l ↦ (o.0, cut.kept o.0 o.1 l, o.2)
          ];
      ahead = λ u v i k e f h. elim (cases_lt i j) [
        | inl l ↦ s.ahead u v i k e f (λ b c x y. h b (cut.kept b c (omega arith)) x y)
        | inr l ↦
            let to_node : Leads g u node = s.ahead u node i a.from e open_a (λ b c x y. let z = last b c in omega arith) in
            let on : Leads g node a.to = leads_by node a.to a.to of_a.1 (leads_nowhere a.to) in
            let from : Leads g a.to v = s.ahead a.to v j k there f (λ b c x y. h b (cut.kept b c y) x (omega arith)) in
            leads_trans g u node v to_node (leads_trans g node a.to v on from)
      ];
      left = λ b c. s.left b (Contains-append_left arrows (a ∷ []) b c);
      climbing = climbing_less arrows (a ∷ []) s.climbing;
      followed = λ u i w e c. elim (s.followed u i w e c) [
        | inl d ↦ elim (Contains-push_cases arrows a (arrow i w) d) [
          | inl x ↦ inl x
          | inr x ↦ inr (inr (
            j,
            subst (λ (y : ℕ). place_at ps y ≡ Open j) (ap (λ y. y.to) x) there,
            λ b y z t. let l = (cut.only b y).1 in omega arith,
          ))
        ]
        | inr d ↦ elim d [
          | inl x ↦ inr (inl x)
          | inr x ↦ inr (inr (x.0, x.1, λ b y. x.2 b (cut.only b y).0))
        ]
      ];
      behind = s.behind;
      back = s.back;
      ordered = s.ordered;
      ranked = s.ranked;
    }

-- ---- and to one that the search has left
pub skip_sound : (g : Graph) (ps : List Place) (way starts : List ℕ) (arrows : List Arrow) (order : List ℕ) (a : Arrow) (r : ℕ)
    → IsSound g ps way starts (arrows ++ a ∷ []) order → place_at ps a.to ≡ Ranked r → IsSound g ps way starts arrows order
skip_sound g ps way starts arrows order a r s there =
    record {
      on_way = s.on_way;
      opened = s.opened;
      rising = s.rising;
      begun = s.begun;
      grouped = s.grouped;
      ahead = s.ahead;
      left = λ b c. s.left b (Contains-append_left arrows (a ∷ []) b c);
      climbing = climbing_less arrows (a ∷ []) s.climbing;
      followed = λ u i w e c. elim (s.followed u i w e c) [
        | inl d ↦ elim (Contains-push_cases arrows a (arrow i w) d) [
          | inl x ↦ inl x
          | inr x ↦ inr (inl (r, subst (λ (y : ℕ). place_at ps y ≡ Ranked r) (ap (λ y. y.to) x) there))
        ]
        | inr d ↦ inr d
      ];
      behind = s.behind;
      back = s.back;
      ordered = s.ordered;
      ranked = s.ranked;
    }
