-- Members that a search has reached.
use Rattle.std.proofs.Common.{◌≡◌, ◌≢◌, ℕ, ◌+◌, ◌<◌, ◌≤◌, Bool, true, false, List, [], ◌∷◌, ◌++◌, length, get_or, set, arith, refl, ap, sym, ◌∙◌, subst, inl, inr, vec_len, below_more, Vec}
use Rattle.std.specs.Prelude.{All, Option, Some, slice_get, replicate}
use Rattle.std.proofs.lemmas.Bool.{cases_lt, cases_eq}
use Rattle.std.proofs.lemmas.List.{get_or_append_left, get_or_push, length_push, get_or-set_same, get_or-set_other, length-set, get_or-map, get_or_default, get_or_past, length-replicate, get_or-replicate}
use Rattle.std.proofs.lemmas.List.Elements.{All-map, Contains-append_left, Contains-push}
use Rattle.haya_assignment.specs.Assignment.{Table, rows}
use Rattle.haya_assignment.specs.Placed.{accepts, Grows}
use Rattle.haya_assignment.specs.Search.{AreAlike, AreLayers, AreScanned, IsClosed, IsReached, IsSearched, IsSearchedBelow}
use Rattle.haya_assignment.specs.declared.search.Reached.{Reached}
use Rattle.haya_assignment.proofs.Numbers.{at_more, at_most, contains_at, contains_grows}

-- ---- the table
pub accepts_read : {Z : Type 0} (table : List (Vec Bool Z)) (row : Vec Bool Z) (i j : ℕ) (b : Bool) → i < length table → row ≡ get_or table i row → j < length row.items → b ≡ get_or row.items j b → b ≡ accepts (rows table) i j
unfolding accepts
accepts_read table row i j b in_rows is in_row at =
    rw (get_or-map (λ row. row.items) table i row [] in_rows, ← is, get_or_default row.items j false b in_row) at

true_within : (row : List Bool) (j : ℕ) → get_or row j false ≡ true → j < length row
true_within row j ok = elim (cases_lt j (length row)) [
  | inl l ↦ l
  | inr g ↦ let no : get_or row j false ≡ false = get_or_past row j false g in absurd (cc)
]

-- a member that is accepted has a row, which has the position
pub accepts_row : (table : Table) (i j : ℕ) → accepts table i j ≡ true → (i < length table) × (j < length (get_or table i []))
unfolding accepts
accepts_row table i j ok =
    elim (cases_lt i (length table)) [
      | inl l ↦ (l, true_within (get_or table i []) j ok)
      | inr g ↦
          let none : j < length (get_or table i []) = true_within (get_or table i []) j ok in
          absurd (let short : j < 0 = subst (λ (row : List Bool). j < length row) (get_or_past table i [] g) none in omega arith)
    ]

pub accepts_below : (table : Table) (p i j : ℕ) → All (λ row. length row ≡ p) table → accepts table i j ≡ true → j < p
accepts_below table p i j width ok =
    let at = accepts_row table i j ok in
    let long : length (get_or table i []) ≡ p = width i [] at.0 in
    let within : j < length (get_or table i []) = at.1 in
    omega arith

pub accepts_within : {Z : Type 0} (table : List (Vec Bool Z)) (p i j : ℕ) → All (λ row. vec_len row ≡ p) table → accepts (rows table) i j ≡ true → j < p
accepts_within table p i j width ok = accepts_below (rows table) p i j (All-map (λ row. length row ≡ p) (λ row. row.items) table (λ k d h. let long : vec_len (get_or table k d) ≡ p = width k d h in let fits = (get_or table k d).ok in omega arith)) ok

-- ---- positions that are closed
pub closed_grows : (stays : List Bool) (hs : List (Option ℕ)) (ms ms' : List ℕ) (j : ℕ) → Grows ms ms' → IsClosed stays hs ms j → IsClosed stays hs ms' j
closed_grows stays hs ms ms' j g c =
    record { holder = c.holder; held = c.held; which = elim c.which [ inl a ↦ inl a | inr b ↦ inr (contains_grows ms ms' c.holder g b) ] }

pub searched_grows : (A : ℕ → ℕ → Bool) (stays : List Bool) (end : ℕ) (hs : List (Option ℕ)) (ms ms' : List ℕ) → end ≤ length ms → Grows ms ms' → IsSearched A stays end hs ms → IsSearched A stays end hs ms'
searched_grows A stays end hs ms ms' le g s t j z h ok =
    let l : t < length ms = omega arith in
    closed_grows stays hs ms ms' j g (s t j z h (rw (g.same t l) ok))

-- one more position that is closed where it is accepted
pub closed_more : (A : ℕ → ℕ → Bool) (stays : List Bool) (hs : List (Option ℕ)) (ms ms' : List ℕ) (i k : ℕ) → Grows ms ms' → ((j : ℕ) → j < k → A i j ≡ true → IsClosed stays hs ms j) → (A i k ≡ true → IsClosed stays hs ms' k) → (j : ℕ) → j < k + 1 → A i j ≡ true → IsClosed stays hs ms' j
closed_more A stays hs ms ms' i k g below here =
    below_more (λ j. A i j ≡ true → IsClosed stays hs ms' j) k (λ j h ok. closed_grows stays hs ms ms' j g (below j h ok)) here

-- ---- members that are alike
pub scanned_grows : (A : ℕ → ℕ → Bool) (stays : List Bool) (hs : List (Option ℕ)) (alike : List ℕ) (r r' : Reached)
    → r'.scanned.items ≡ r.scanned.items → length r'.seen.items ≡ length r.seen.items → Grows r.members.items r'.members.items
    → AreScanned A stays hs alike r → AreScanned A stays hs alike r'
scanned_grows A stays hs alike r r' kept long g was = record {
  as_many = omega (arith, ap length kept, long, was.as_many);
  closed = λ u j h flag ok. closed_grows stays hs r.members.items r'.members.items j g (was.closed u j h (rw (← kept) flag) ok);
}

-- the positions were gone through for one more member
pub scanned_more : (A : ℕ → ℕ → Bool) (stays : List Bool) (hs : List (Option ℕ)) (alike : List ℕ) (r r' : Reached) (m : ℕ)
    → r'.scanned.items ≡ set r.scanned.items (get_or alike m 0) true → length r'.seen.items ≡ length r.seen.items → r'.members.items ≡ r.members.items
    → m < length alike → AreAlike A alike → ((j : ℕ) → A m j ≡ true → IsClosed stays hs r.members.items j)
    → AreScanned A stays hs alike r → AreScanned A stays hs alike r'
scanned_more A stays hs alike r r' m is long same in_alike likes here was =
    let like = get_or alike m 0 in record {
      as_many = omega (arith, ap length is, length-set r.scanned.items like true, long, was.as_many);
      closed = λ u j h flag ok. rw same (elim (cases_eq (get_or alike u 0) like) [
        | inl e ↦ here j (sym (likes.same m j in_alike) ∙ (ap (λ k. A k j) (sym e) ∙ (likes.same u j h ∙ ok)))
        | inr ne ↦ was.closed u j h (sym (get_or-set_other r.scanned.items like (get_or alike u 0) true false ne) ∙ (ap (λ xs. get_or xs (get_or alike u 0) false) (sym is) ∙ flag)) ok
      ]);
    }

-- one more member that is searched
pub searched_more : (A : ℕ → ℕ → Bool) (stays : List Bool) (n : ℕ) (hs : List (Option ℕ)) (ms ms' : List ℕ) → n < length ms → Grows ms ms' → IsSearched A stays n hs ms → ((j : ℕ) → A (get_or ms n 0) j ≡ true → IsClosed stays hs ms' j) → IsSearched A stays (n + 1) hs ms'
searched_more A stays n hs ms ms' in_ms g s here t j z h =
    below_more (λ t. 0 < t → A (get_or ms' t 0) j ≡ true → IsClosed stays hs ms' j) n
    (λ t h z. searched_grows A stays n hs ms ms' (omega arith) g s t j z h)
    (λ z ok. here j (rw (g.same n in_ms) ok)) t h z

-- ---- members that were reached
pub reached_one : (A : ℕ → ℕ → Bool) (stays : List Bool) (member count : ℕ) (hs : List (Option ℕ)) → member < count → IsReached A stays hs (member ∷ []) (0 ∷ []) (set (replicate count false) member true)
reached_one A stays member count hs in_count =
    let long : length (replicate count false) ≡ count = length-replicate count false in
    let long' : length (set (replicate count false) member true) ≡ length (replicate count false) = length-set (replicate count false) member true in
    let same : get_or (set (replicate count false) member true) member false ≡ true = get_or-set_same (replicate count false) member true false (omega arith) in
    record {
      some = omega arith;
      as_many = refl;
      known = λ t h. let e : t ≡ 0 = omega arith in rw e (omega arith);
      flagged = λ u yes. elim (cases_eq u member) [
        | inl e ↦ (0, (let z : 0 < 1 = omega arith in z), sym e)
        | inr ne ↦
            let other : get_or (set (replicate count false) member true) u false ≡ get_or (replicate count false) u false = get_or-set_other (replicate count false) member u true false ne in
            absurd (let no = none u in cc)
      ];
      flags = λ t h. let e : t ≡ 0 = omega arith in rw e same;
      apart = λ i j a b. absurd (omega arith);
      moves = λ t a b. absurd (omega arith);
      earlier = λ t a b. absurd (omega arith);
      via = λ t a b. absurd (omega arith);
    }
  where
    none : (u : ℕ) → get_or (replicate count false) u false ≡ false
    none u = elim (cases_lt u count) [
      | inl l ↦ get_or-replicate count u false false l
      | inr g ↦ get_or_past (replicate count false) u false (omega (arith, length-replicate count false))
    ]

pub reached_push : (A : ℕ → ℕ → Bool) (stays : List Bool) (hs : List (Option ℕ)) (ms fs : List ℕ) (seen : List Bool) (t u j : ℕ) → IsReached A stays hs ms fs seen → t < length ms → u < length seen → get_or stays u false ≡ false → get_or seen u false ≡ false → slice_get hs j ≡ Some (Some u) → A (get_or ms t 0) j ≡ true → IsReached A stays hs (ms ++ u ∷ []) (fs ++ t ∷ []) (set seen u true)
reached_push A stays hs ms fs seen t u j r in_ms in_seen moves new held ok =
    let n = length_push ms u in
    let m = length_push fs t in
    let even : length fs ≡ length ms = r.as_many in
    let long : length (set seen u true) ≡ length seen = length-set seen u true in
    let same : get_or (set seen u true) u false ≡ true = get_or-set_same seen u true false in_seen in
    let other : (k : ℕ) → k < length ms → get_or ms k 0 ≢ u = λ k h e. let yes = r.flags k h in let no : get_or seen (get_or ms k 0) false ≡ false = rw e new in absurd (cc) in
    record {
      some = omega arith;
      as_many = omega arith;
      known = at_more (λ k x. x < length (set seen u true)) ms u 0 (λ k h. let l = r.known k h in omega arith) (omega arith);
      flagged = λ v yes. elim (cases_eq v u) [
        | inl e ↦ rw e (Contains-push ms u)
        | inr ne ↦ Contains-append_left ms (u ∷ []) v (r.flagged v (sym (get_or-set_other seen u v true false ne) ∙ yes))
      ];
      flags = at_more (λ k x. get_or (set seen u true) x false ≡ true) ms u 0
          (λ k h. get_or-set_other seen u (get_or ms k 0) true false (other k h) ∙ r.flags k h) same;
      apart = λ i k a b. at_more (λ k x. (l : ℕ) → l < k → get_or (ms ++ u ∷ []) l 0 ≢ x) ms u 0
          (λ k h l z. let l' : l < length ms = omega arith in rw (get_or_append_left ms (u ∷ []) 0 l l') (r.apart l k z h))
          (λ l z. rw (get_or_append_left ms (u ∷ []) 0 l z) (other l z)) k b i a;
      moves = λ s a b. at_more (λ k x. 0 < k → get_or stays x false ≡ false) ms u 0 (λ k h z. r.moves k z h) (λ z. moves) s b a;
      earlier = λ s a b. let b' : s < length (fs ++ t ∷ []) = omega arith in
          at_more (λ k x. 0 < k → x < k) fs t 0 (λ k h z. r.earlier k z (omega arith)) (λ z. omega arith) s b' a;
      via = λ s a b.
          elim (cases_lt s (length ms)) [
            | inl l ↦
                let e : get_or fs s 0 < s = r.earlier s a l in
                let l' : s < length fs = omega arith in
                let i : get_or fs s 0 < length ms = omega arith in
                rw (get_or_append_left fs (t ∷ []) 0 s l', get_or_append_left ms (u ∷ []) 0 s l, get_or_append_left ms (u ∷ []) 0 (get_or fs s 0) i) (r.via s a l)
            | inr g ↦
                let e : length ms ≡ s = omega arith in
                let e' : length fs ≡ s = omega arith in
                rw (get_or_push ms u 0 s e, get_or_push fs t 0 s e', get_or_append_left ms (u ∷ []) 0 t in_ms) (record { position = j; held = held; accepted = ok })
          ];
    }

-- the members reached are at most those that there are
pub reached_few : (A : ℕ → ℕ → Bool) (stays : List Bool) (hs : List (Option ℕ)) (ms fs : List ℕ) (seen : List Bool) → IsReached A stays hs ms fs seen → length ms ≤ length seen
reached_few A stays hs ms fs seen r = at_most ms (length seen) r.apart r.known

-- those reached by way of the first are early, with one more that is
pub early_push : (bound : ℕ) (hs : List (Option ℕ)) (ms fs : List ℕ) (t u j : ℕ) → length fs ≡ length ms → slice_get hs j ≡ Some (Some u) → (t ≡ 0 → j < bound)
    → ((s : ℕ) → 0 < s → s < length ms → get_or fs s 0 ≡ 0 → (i : ℕ) × (slice_get hs i ≡ Some (Some (get_or ms s 0))) × (i < bound))
    → (s : ℕ) → 0 < s → s < length (ms ++ u ∷ []) → get_or (fs ++ t ∷ []) s 0 ≡ 0 → (i : ℕ) × (slice_get hs i ≡ Some (Some (get_or (ms ++ u ∷ []) s 0))) × (i < bound)
early_push bound hs ms fs t u j even held below was s a b root =
    elim (cases_lt s (length ms)) [
      | inl l ↦
          let l' : s < length fs = omega arith in
          rw (get_or_append_left ms (u ∷ []) 0 s l) (was s a l (sym (get_or_append_left fs (t ∷ []) 0 s l') ∙ root))
      | inr g ↦
          let e : length ms ≡ s = omega (arith, length_push ms u) in
          let e' : length fs ≡ s = omega arith in
          rw (get_or_push ms u 0 s e) (j, held, below (sym (get_or_push fs t 0 s e') ∙ root))
    ]

-- one more position of the first that is left
pub searched_below_more : (A : ℕ → ℕ → Bool) (stays : List Bool) (bound : ℕ) (hs : List (Option ℕ)) (ms ms' ms'' : List ℕ) → 0 < length ms → Grows ms ms' → Grows ms' ms''
    → IsSearchedBelow A stays bound hs ms → (A (get_or ms 0 0) bound ≡ true → IsClosed stays hs ms' bound) → IsSearched A stays (length ms'') hs ms'' → IsSearchedBelow A stays (bound + 1) hs ms''
searched_below_more A stays bound hs ms ms' ms'' some g g' was here later =
    let longer : length ms ≤ length ms' = g.longer in
    let same : get_or ms 0 0 ≡ get_or ms'' 0 0 = g.same 0 some ∙ g'.same 0 (omega arith) in
    record {
      later = later;
      below = λ j h ok. below_more (λ j. A (get_or ms 0 0) j ≡ true → IsClosed stays hs ms'' j) bound
          (λ j h ok. closed_grows stays hs ms' ms'' j g' (closed_grows stays hs ms ms' j g (was.below j h ok)))
          (λ ok. closed_grows stays hs ms' ms'' bound g' (here ok)) j h (rw same ok);
    }

pub early_weaker : (bound : ℕ) (hs : List (Option ℕ)) (ms fs : List ℕ)
    → ((s : ℕ) → 0 < s → s < length ms → get_or fs s 0 ≡ 0 → (i : ℕ) × (slice_get hs i ≡ Some (Some (get_or ms s 0))) × (i < bound))
    → (s : ℕ) → 0 < s → s < length ms → get_or fs s 0 ≡ 0 → (i : ℕ) × (slice_get hs i ≡ Some (Some (get_or ms s 0))) × (i < bound + 1)
early_weaker bound hs ms fs was s a b root = let w = was s a b root in let l : w.0 < bound = w.2 in (w.0, w.1, omega arith)

pub none_set : (count u : ℕ) → get_or (replicate count false) u false ≡ false
none_set count u = elim (cases_lt u count) [
  | inl l ↦ get_or-replicate count u false false l
  | inr g ↦ get_or_past (replicate count false) u false (omega (arith, length-replicate count false))
]

-- ---- layers
pub layers_low : (ls ls' : List ℕ) (layer : ℕ) → Grows ls ls' → ((t : ℕ) → length ls ≤ t → t < length ls' → get_or ls' t 0 ≡ layer) → ((t : ℕ) → t < length ls → get_or ls t 0 < layer) → (t : ℕ) → t < length ls' → get_or ls' t 0 < layer + 1
layers_low ls ls' layer g new lower t h = elim (cases_lt t (length ls)) [
  | inl l ↦ let low : get_or ls t 0 < layer = lower t l in rw (← g.same t l) (omega arith)
  | inr g ↦ rw (new t g h) (omega arith)
]

pub layers_grow : (A : ℕ → ℕ → Bool) (stays : List Bool) (hs : List (Option ℕ)) (ms ms' ls : List ℕ) → Grows ms ms' → AreLayers A stays hs ms ls → AreLayers A stays hs ms' ls
layers_grow A stays hs ms ms' ls g r =
    let fewer : length ls ≤ length ms = r.fewer in
    let longer : length ms ≤ length ms' = g.longer in
    record {
      fewer = omega arith;
      within = λ t j z h ok.
          let w = r.within t j z h (rw (g.same t (omega arith)) ok) in
          record {
            holder = w.holder;
            held = w.held;
            which = elim w.which [ inl s ↦ inl s | inr b ↦ let l : b.0 < length ls = b.1 in inr (b.0, b.1, sym (g.same b.0 (omega arith)) ∙ b.2, b.3) ];
          };
    }

-- those without a layer get the next one
pub layers_more : (A : ℕ → ℕ → Bool) (stays : List Bool) (hs : List (Option ℕ)) (ms ls ls' : List ℕ) (layer : ℕ) → length ls' ≡ length ms → Grows ls ls' → ((t : ℕ) → length ls ≤ t → t < length ms → get_or ls' t 0 ≡ layer)
    → ((t : ℕ) → t < length ls → get_or ls t 0 < layer) → AreLayers A stays hs ms ls → IsSearched A stays (length ms) hs ms → AreLayers A stays hs ms ls'
layers_more A stays hs ms ls ls' layer long g new lower r searched =
    let more : length ls ≤ length ls' = g.longer in
    let most : (s : ℕ) → s < length ms → get_or ls' s 0 ≤ layer = λ s h. elim (cases_lt s (length ls)) [
      | inl l ↦ let low : get_or ls s 0 < layer = lower s l in rw (← g.same s l) (omega arith)
      | inr g ↦ rw (new s g h) (omega arith)
    ] in
    record {
      fewer = omega arith;
      within = λ t j z h ok. elim (cases_lt t (length ls)) [
        | inl l ↦
            let w = r.within t j z l ok in
            record {
              holder = w.holder;
              held = w.held;
              which = elim w.which [ inl s ↦ inl s | inr b ↦ let k : b.0 < length ls = b.1 in inr (b.0, omega arith, b.2, rw (← g.same b.0 k, ← g.same t l) b.3) ];
            }
        | inr old ↦
            let h' : t < length ms = omega arith in
            let c = searched t j z h' ok in
            record {
              holder = c.holder;
              held = c.held;
              which = elim c.which [
                | inl s ↦ inl s
                | inr b ↦ let k : b.0 < length ms = b.1 in inr (b.0, omega arith, contains_at ms c.holder b, rw (new t old h') (most b.0 k))
              ];
            }
      ];
    }
