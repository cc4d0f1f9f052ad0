-- What ranks say of assignments.
use Rattle.std.proofs.Common.{◌≡◌, ◌≢◌, ℕ, zero, suc, ◌+◌, ◌<◌, ◌≤◌, Bool, true, false, List, length, get_or, map, set, arith, refl, sym, ap, ◌∙◌, subst, inl, inr}
use Rattle.std.specs.Prelude.{◌⊎◌, Contains, Option, filter, replicate}
use Rattle.std.specs.List.{range_with_len}
use Rattle.std.proofs.Math.Dec.{ltb}
use Rattle.std.proofs.lemmas.Bool.{cases_lt, cases_eq, lt-ltb, ltb-true}
use Rattle.std.proofs.lemmas.List.{get_or-map, length-map, get_or-set_same, get_or-set_other, length-set, length-replicate, get_or-replicate}
use Rattle.std.proofs.lemmas.List.Elements.{Contains-get_or}
use Rattle.std.proofs.lemmas.List.FromFn.{length-range_with_len, get_or-range_with_len}
use Rattle.std.proofs.lemmas.List.Kept.{AllPairs-filter}
use Rattle.haya_assignment.specs.Placed.{IsApart, IsPlaced, SameBelow}
use Rattle.haya_assignment.specs.Ranked.{AreRanked, IsLayered}
use Rattle.haya_assignment.specs.declared.ranks.Ranks.{Ranks}
use Rattle.haya_assignment.proofs.Listing.{Contains-filter, Contains-from_filter, Contains-range, range_ascends, contains-map, contains-from_map}
use Rattle.haya_assignment.proofs.Numbers.{all_those, differ}

-- the members of so many whose ranks are at most this one
low : ℕ → List ℕ → ℕ → List ℕ
low n ranks rank = filter (λ u. ltb (get_or ranks u 0) (rank + 1)) (range_with_len 0 n)

low_has : (n : ℕ) (ranks : List ℕ) (rank u : ℕ) → u < n → get_or ranks u 0 ≤ rank → Contains (low n ranks rank) u
unfolding low
low_has n ranks rank u l h = Contains-filter (λ u. ltb (get_or ranks u 0) (rank + 1)) (range_with_len 0 n) u (Contains-range n u l) (lt-ltb (get_or ranks u 0) (rank + 1) (omega arith))

range_below : (n u : ℕ) → Contains (range_with_len 0 n) u → u < n
range_below n u c = let l : c.0 < n = omega (arith, length-range_with_len 0 n, c.1) in subst (λ (u : ℕ). u < n) (sym (get_or-range_with_len 0 n c.0 u l) ∙ c.2) (omega arith)

low_is : (n : ℕ) (ranks : List ℕ) (rank u : ℕ) → Contains (low n ranks rank) u → (u < n) × (get_or ranks u 0 ≤ rank)
unfolding low
low_is n ranks rank u c =
    let w = Contains-from_filter (λ u. ltb (get_or ranks u 0) (rank + 1)) (range_with_len 0 n) u c in
    let l : get_or ranks u 0 < rank + 1 = ltb-true (get_or ranks u 0) (rank + 1) w.1 in
    (range_below n u w.0, omega arith)

low_apart : (n : ℕ) (ranks : List ℕ) (rank : ℕ) → IsApart (low n ranks rank)
unfolding low
low_apart n ranks rank i j a b =
    let us = filter (λ u. ltb (get_or ranks u 0) (rank + 1)) (range_with_len 0 n) in
    let less : get_or us i 0 < get_or us j 0 = AllPairs-filter (λ i j. i < j) (λ u. ltb (get_or ranks u 0) (rank + 1)) (range_with_len 0 n) (range_ascends n) i j 0 a b in
    λ e. omega arith

-- what two lists have at the same members, the second at each one that the first has: it has all of them
onto : (us ps qs : List ℕ) → IsApart us → IsApart qs → ((u : ℕ) → Contains us u → u < length qs)
    → ((u : ℕ) → Contains us u → (w : ℕ) × Contains us w × (get_or ps w 0 ≡ get_or qs u 0))
    → (w : ℕ) → Contains us w → (u : ℕ) × Contains us u × (get_or qs u 0 ≡ get_or ps w 0)
onto us ps qs apart distinct known into w c =
    let at_p : ℕ → ℕ = λ u. get_or ps u 0 in
    let at_q : ℕ → ℕ = λ u. get_or qs u 0 in
    let has : (k : ℕ) → k < length us → Contains us (get_or us k 0) = λ k h. Contains-get_or us k 0 h in
    let long : length (map at_q us) ≡ length us = length-map us at_q in
    let long' : length (map at_p us) ≡ length us = length-map us at_p in
    let apart' : IsApart (map at_q us) = λ i j a b.
    let hj : j < length us = omega arith in
    let hi : i < length us = omega arith in
    rw (get_or-map at_q us i 0 0 hi, get_or-map at_q us j 0 0 hj) (differ qs distinct (get_or us i 0) (get_or us j 0) (known _ (has i hi)) (known _ (has j hj)) (apart i j a hj)) in
    let all : (k : ℕ) → k < length (map at_q us) → Contains (map at_p us) (get_or (map at_q us) k 0) = λ k h.
    let hk : k < length us = omega arith in
    let to = into (get_or us k 0) (has k hk) in
    rw (get_or-map at_q us k 0 0 hk) (subst (λ (y : ℕ). Contains (map at_p us) y) to.2 (contains-map at_p us to.0 to.1)) in
    contains-from_map at_q us (at_p w) (all_those (map at_q us) (map at_p us) apart' (long ∙ sym long') all (at_p w) (contains-map at_p us w c))

module _ (A : ℕ → ℕ → Bool) (first : ℕ) (r : Ranks) (ps : List ℕ) (ranked : AreRanked A first r ps) where
  -- an assignment with the same positions before the first has members of low ranks at their positions
  low_taken : (others : List ℕ) → IsPlaced A others → length ps ≤ length others → SameBelow first ps others → (w : ℕ) → w < length ps → get_or r.ranks.items w 0 < r.top
      → (u : ℕ) × (u < length ps) × (get_or r.ranks.items u 0 ≤ get_or r.ranks.items w 0) × (get_or others u 0 ≡ get_or ps w 0)
  low_taken others placed longer same w known given =
      let n = length ps in
      let ranks = r.ranks.items in
      let rank = get_or ranks w 0 in
      let us = low n ranks rank in
      let into : (u : ℕ) → Contains us u → (w : ℕ) × Contains us w × (get_or ps w 0 ≡ get_or others u 0) = λ u c.
      let is = low_is n ranks rank u c in
      let l : u < n = is.0 in
      let few : get_or ranks u 0 ≤ rank = is.1 in
      elim (cases_lt u first) [
        | inl z ↦ (u, c, same u z)
        | inr g ↦
            let at = ranked.within u (get_or others u 0) g l (omega arith) (placed.accepted u (omega arith)) in
            let less : get_or ranks at.holder 0 ≤ get_or ranks u 0 = at.low in
            (at.holder, low_has n ranks rank at.holder at.known (omega arith), at.there)
      ] in
      let to = onto us ps others (low_apart n ranks rank) placed.apart (λ u c. let l : u < n = (low_is n ranks rank u c).0 in omega arith) into w (low_has n ranks rank w known (omega arith)) in
      let is = low_is n ranks rank to.0 to.1 in
      (to.0, is.0, is.1, to.2)

  -- so those of greater ranks don't have them
  pub beside : (others : List ℕ) → IsPlaced A others → length ps ≤ length others → SameBelow first ps others → (u v : ℕ) → u < length ps → v < length ps → get_or r.ranks.items v 0 < get_or r.ranks.items u 0 → get_or others u 0 ≢ get_or ps v 0
  beside others placed longer same u v hu hv less e =
      let top : (get_or r.ranks.items u 0 < r.next) ⊎ (get_or r.ranks.items u 0 ≡ r.top) = ranked.given u hu in
      let fits : r.next ≤ r.top = ranked.below_top in
      let given : get_or r.ranks.items v 0 < r.top = elim top [ inl l ↦ omega arith | inr t ↦ omega arith ] in
      let to = low_taken others placed longer same v hv given in
      let few : get_or r.ranks.items to.0 0 ≤ get_or r.ranks.items v 0 = to.2 in
      let known : to.0 < length ps = to.1 in
      elim (cases_eq to.0 u) [
        | inl is ↦ absurd (let l : get_or r.ranks.items u 0 ≤ get_or r.ranks.items v 0 = subst (λ (x : ℕ). get_or r.ranks.items x 0 ≤ get_or r.ranks.items v 0) is few in omega arith)
        | inr ne ↦ absurd (differ others placed.apart to.0 u (omega arith) (omega arith) ne (to.3 ∙ sym e))
      ]

  -- the ranks are those of an assignment too that has the same positions before the first, with one more that is fixed
  pub ranked_next : (qs : List ℕ) (s : Ranks) → first < length ps → IsPlaced A qs → length qs ≡ length ps → SameBelow first ps qs → s.next ≡ r.next → s.top ≡ r.top → s.ranks.items ≡ set r.ranks.items first 0
      → AreRanked A (first + 1) s qs
  ranked_next qs s in_ps placed long same next top is =
      let ranks = r.ranks.items in
      let many : length ranks ≡ length ps = ranked.as_many in
      let here : get_or s.ranks.items first 0 ≡ 0 = rw is (get_or-set_same ranks first 0 0 (omega arith)) in
      let there : (u : ℕ) → u ≢ first → get_or s.ranks.items u 0 ≡ get_or ranks u 0 = λ u ne. rw is (get_or-set_other ranks first u 0 0 ne) in
      let less : (u : ℕ) → get_or s.ranks.items u 0 ≤ get_or ranks u 0 = λ u. elim (cases_eq u first) [ inl e ↦ rw (e, here) (omega arith) | inr ne ↦ rw (there u ne) (omega arith) ] in
      record {
        as_many = ap (λ (xs : List ℕ). length xs) is ∙ length-set ranks first 0 ∙ many ∙ sym long;
        next = rw next ranked.next;
        fixed = λ v h. elim (cases_eq v first) [ inl e ↦ rw e here | inr ne ↦ there v ne ∙ ranked.fixed v (omega arith) ];
        later = λ v h k. let ne : v ≢ first = omega arith in rw (there v ne) (ranked.later v (omega arith) (omega arith));
        given = λ v h. elim (cases_eq v first) [
          | inl e ↦ inl (rw (e, here, next) ranked.next)
          | inr ne ↦ rw (there v ne, next, top) (ranked.given v (omega arith))
        ];
        below_top = rw (next, top) ranked.below_top;
        within = λ v j h k low ok.
            let ne : v ≢ first = omega arith in
            let same_rank : get_or s.ranks.items v 0 ≡ get_or ranks v 0 = there v ne in
            let low' : get_or ranks v 0 < r.top = rw (← same_rank, ← top) low in
            let at = ranked.within v j (omega arith) (omega arith) low' ok in
            let few : get_or ranks at.holder 0 ≤ get_or ranks v 0 = at.low in
            let to = low_taken qs placed (omega arith) same at.holder at.known (omega arith) in
            let few' : get_or ranks to.0 0 ≤ get_or ranks at.holder 0 = to.2 in
            let last : get_or s.ranks.items to.0 0 ≤ get_or ranks to.0 0 = less to.0 in
            let known : to.0 < length ps = to.1 in
            record {
              holder = to.0;
              known = omega arith;
              there = to.3 ∙ at.there;
              low = omega arith;
            };
      }

-- ---- flags of those of lesser ranks
module _ (flags : List Bool) (ranks : List ℕ) (member : ℕ) (set : (u : ℕ) → get_or flags u false ≡ true → get_or ranks u 0 < get_or ranks member 0) (unset : (u : ℕ) → get_or flags u false ≡ false → u < length ranks → get_or ranks member 0 ≤ get_or ranks u 0) where
  pub not_below : get_or flags member false ≡ false
  not_below =
      (elim (get_or flags member false) as (λ b. get_or flags member false ≡ b → get_or flags member false ≡ false) [
        | true ↦ λ e. absurd (let l : get_or ranks member 0 < get_or ranks member 0 = set member e in omega arith)
        | false ↦ λ e. e
      ]) refl

  pub is_below : (u : ℕ) → u < length ranks → get_or ranks u 0 < get_or ranks member 0 → get_or flags u false ≡ true
  is_below u h less =
      (elim (get_or flags u false) as (λ b. get_or flags u false ≡ b → get_or flags u false ≡ true) [
        | true ↦ λ e. e
        | false ↦ λ e. absurd (let l : get_or ranks member 0 ≤ get_or ranks u 0 = unset u e h in omega arith)
      ]) refl

-- ---- ranks that are given
found_after : (xs : List ℕ) (v n : ℕ) → ((t : ℕ) × (0 < t) × (t < n) × (get_or xs t 0 ≡ v)) ⊎ ((t : ℕ) → 0 < t → t < n → get_or xs t 0 ≢ v)
found_after xs v zero = inr (λ t z h. absurd (omega arith))
found_after xs v (suc n) = elim (found_after xs v n) [
  | inl w ↦ let l : w.0 < n = w.2 in inl (w.0, w.1, omega arith, w.3)
  | inr miss ↦ elim (cases_lt 0 n) [
    | inr z ↦ inr (λ t a b. absurd (omega arith))
    | inl z ↦ elim (cases_eq (get_or xs n 0) v) [
      | inl e ↦ inl (n, z, (let l : n < suc n = omega arith in l), e)
      | inr ne ↦ inr (λ t a b. elim (cases_eq t n) [ inl e ↦ rw e ne | inr other ↦ miss t a (omega arith) ])
    ]
  ]
]

module _ (A : ℕ → ℕ → Bool) (member : ℕ) (ps : List ℕ) (stays : List Bool) (hs : List (Option ℕ)) (r s : Ranks) (ms ls : List ℕ) (ranked : AreRanked A member r ps) (layered : IsLayered A member ps stays hs r ms ls)
    (none : get_or r.ranks.items member 0 ≡ r.top) (known : (t : ℕ) → t < length ms → get_or ms t 0 < length r.ranks.items) where
  -- what has a rank isn't one of those that get one
  unmoved : (w : ℕ) → get_or r.ranks.items w 0 < r.top → (t : ℕ) → 0 < t → t < length ls → get_or ms t 0 ≢ w
  unmoved w low t z h e =
      let few : length ls ≤ length ms = layered.closed.fewer in
      let many : length r.ranks.items ≡ length ps = ranked.as_many in
      let in_ranks : get_or ms t 0 < length r.ranks.items = known t (omega arith) in
      let high : get_or r.ranks.items member 0 ≤ get_or r.ranks.items (get_or ms t 0) 0 = layered.high (get_or ms t 0) (layered.moves t z h) (omega arith) in
      let same : get_or r.ranks.items (get_or ms t 0) 0 ≡ get_or r.ranks.items w 0 = ap (λ (u : ℕ). get_or r.ranks.items u 0) e in
      omega arith

  pub ranked_given : (count : ℕ) → r.next + count < r.top → length s.ranks.items ≡ length r.ranks.items → s.top ≡ r.top → s.next ≡ r.next + count
      → ((u : ℕ) → ((t : ℕ) → 0 < t → t < length ls → get_or ms t 0 ≢ u) → get_or s.ranks.items u 0 ≡ get_or r.ranks.items u 0)
      → ((t : ℕ) → 0 < t → t < length ls → get_or s.ranks.items (get_or ms t 0) 0 ≡ r.next + get_or ls t 0)
      → ((t : ℕ) → t < length ls → get_or ls t 0 < count) → AreRanked A member s ps
  ranked_given count room long top next others given few =
      let start : 0 < r.next = ranked.next in
      let moved : (t v : ℕ) → 0 < t → t < length ls → get_or ms t 0 ≡ v → get_or s.ranks.items v 0 ≡ r.next + get_or ls t 0 = λ t v z h e. subst (λ (v : ℕ). get_or s.ranks.items v 0 ≡ r.next + get_or ls t 0) e (given t z h) in
      let same : (w : ℕ) → get_or r.ranks.items w 0 < r.top → get_or s.ranks.items w 0 ≡ get_or r.ranks.items w 0 = λ w low. others w (unmoved w low) in
      record {
        as_many = long ∙ ranked.as_many;
        next = omega arith;
        fixed = λ v h. let zero_rank : get_or r.ranks.items v 0 ≡ 0 = ranked.fixed v h in same v (omega arith) ∙ zero_rank;
        later = λ v h k. elim (found_after ms v (length ls)) [
          | inl w ↦ let is : get_or s.ranks.items v 0 ≡ r.next + get_or ls w.0 0 = moved w.0 v w.1 w.2 w.3 in omega arith
          | inr miss ↦ rw (others v miss) (ranked.later v h k)
        ];
        given = λ v h. elim (found_after ms v (length ls)) [
          | inl w ↦
              let is : get_or s.ranks.items v 0 ≡ r.next + get_or ls w.0 0 = moved w.0 v w.1 w.2 w.3 in
              let l : get_or ls w.0 0 < count = few w.0 w.2 in
              inl (omega arith)
          | inr miss ↦
              let is : get_or s.ranks.items v 0 ≡ get_or r.ranks.items v 0 = others v miss in
              elim (ranked.given v h) [ inl l ↦ inl (omega arith) | inr e ↦ inr (omega arith) ]
        ];
        below_top = omega arith;
        within = λ v j h k low ok. elim (found_after ms v (length ls)) [
          | inl w ↦
              let is : get_or s.ranks.items v 0 ≡ r.next + get_or ls w.0 0 = moved w.0 v w.1 w.2 w.3 in
              let at = layered.closed.within w.0 j w.1 w.2 (rw w.3 ok) in
              let held = layered.held j at.holder at.held in
              let few' : get_or s.ranks.items at.holder 0 ≤ get_or s.ranks.items v 0 = elim at.which [
                | inl stay ↦
                    let lower : get_or r.ranks.items at.holder 0 < get_or r.ranks.items member 0 = layered.low at.holder stay in
                    let old : get_or s.ranks.items at.holder 0 ≡ get_or r.ranks.items at.holder 0 = same at.holder (omega arith) in
                    elim (ranked.given at.holder held.0) [ inl l ↦ omega arith | inr e ↦ absurd (omega arith) ]
                | inr b ↦
                    let later : 0 < b.0 = elim (cases_lt 0 b.0) [
                      | inl z ↦ z
                      | inr z ↦ let e : b.0 ≡ 0 = omega arith in absurd (held.1 (sym b.2 ∙ ap (λ (t : ℕ). get_or ms t 0) e ∙ layered.one))
                    ] in
                    let is' : get_or s.ranks.items at.holder 0 ≡ r.next + get_or ls b.0 0 = moved b.0 at.holder later b.1 b.2 in
                    let order : get_or ls b.0 0 ≤ get_or ls w.0 0 = b.3 in
                    omega arith
              ] in
              record { holder = at.holder; known = held.0; there = held.2; low = few' }
          | inr miss ↦
              let is : get_or s.ranks.items v 0 ≡ get_or r.ranks.items v 0 = others v miss in
              let at = ranked.within v j h k (omega arith) ok in
              let lower : get_or r.ranks.items at.holder 0 ≤ get_or r.ranks.items v 0 = at.low in
              let old : get_or s.ranks.items at.holder 0 ≡ get_or r.ranks.items at.holder 0 = same at.holder (omega arith) in
              record { holder = at.holder; known = at.known; there = at.there; low = omega arith }
        ];
      }

pub ranked_start : (A : ℕ → ℕ → Bool) (r : Ranks) (ps : List ℕ) → r.ranks.items ≡ replicate (length ps) r.top → r.next ≡ 1 → 1 < r.top → AreRanked A 0 r ps
ranked_start A r ps is next top =
    let long : length (replicate (length ps) r.top) ≡ length ps = length-replicate (length ps) r.top in
    let at : (v : ℕ) → v < length ps → get_or r.ranks.items v 0 ≡ r.top = λ v h. rw is (get_or-replicate (length ps) v r.top 0 h) in
    record {
      as_many = ap (λ (xs : List ℕ). length xs) is ∙ long;
      next = omega arith;
      fixed = λ v h. absurd (omega arith);
      later = λ v h k. let e : get_or r.ranks.items v 0 ≡ r.top = at v k in omega arith;
      given = λ v h. inr (at v h);
      below_top = omega arith;
      within = λ v j h k low ok. let e : get_or r.ranks.items v 0 ≡ r.top = at v k in absurd (omega arith);
    }
