-- What a search says of positions: a member has the least that it can have, or there is no room for it.
use Rattle.std.proofs.Common.{◌≡◌, ◌≢◌, ℕ, zero, suc, ◌+◌, ◌<◌, ◌≤◌, Bool, true, false, List, [], ◌∷◌, length, get_or, map, set, arith, sym, ap, ◌∙◌, subst, inl, inr}
use Rattle.std.specs.Prelude.{Contains, Option, replicate}
use Rattle.std.proofs.lemmas.Bool.{cases_lt}
use Rattle.std.proofs.lemmas.List.{get_or-map, length-map, length-replicate, length-set}
use Rattle.std.proofs.lemmas.List.Elements.{Contains-get_or}
use Rattle.haya_assignment.specs.Placed.{Grows, IsApart, IsPlaced, IsPlacedBut}
use Rattle.haya_assignment.specs.Search.{AreHolders, HasFound, IsClosed, IsSearchedBelow, Reaches}
use Rattle.haya_assignment.specs.Shift.{AreDistinct, IsChain, IsReady, IsStuck, IsTaken}
use Rattle.haya_assignment.specs.declared.search.Reached.{Reached}
use Rattle.haya_assignment.proofs.Numbers.{at_most_those, contains_at, differ, grows_refl}

-- ---- positions of all of the members but the first
rest : List ℕ → List ℕ
rest [] = []
rest (x ∷ xs) = xs

length-rest : (xs : List ℕ) → 0 < length xs → length (rest xs) < length xs
unfolding rest
length-rest [] h = absurd (omega arith)
length-rest (x ∷ xs) h = omega arith

-- what a later place has is in the rest
rest_has : (f : ℕ → ℕ) (xs : List ℕ) (s : ℕ) → 0 < s → s < length xs → Contains (map f (rest xs)) (f (get_or xs s 0))
unfolding rest
rest_has f [] s z h = absurd (omega arith)
rest_has f (x ∷ xs) zero z h = absurd (omega arith)
rest_has f (x ∷ xs) (suc s) z h =
    let l : s < length xs = omega arith in
    let l' : s < length (map f xs) = omega (arith, length-map xs f) in
    subst (λ (y : ℕ). Contains (map f xs) y) (get_or-map f xs s 0 0 l) (Contains-get_or (map f xs) s 0 l')

-- a number is the position of one of the members after the first
pub record IsOfRest (ps ms : List ℕ) (j : ℕ) : Type 0 where
  pub holder : ℕ
  pub other : holder ≢ get_or ms 0 0
  pub there : get_or ps holder 0 ≡ j
  pub among : Contains ms holder

-- such numbers are fewer than the members
pub rest_fewer : (ps ms xs : List ℕ) → 0 < length ms → IsApart xs → ((k : ℕ) → k < length xs → IsOfRest ps ms (get_or xs k 0)) → length xs < length ms
rest_fewer ps ms xs some apart all =
    let place : ℕ → ℕ = λ u. get_or ps u 0 in
    let long : length (map place (rest ms)) ≡ length (rest ms) = length-map (rest ms) place in
    let shorter : length (rest ms) < length ms = length-rest ms some in
    let most : length xs ≤ length (map place (rest ms)) = at_most_those xs (map place (rest ms)) apart (λ k h.
    let w = all k h in
    let at : get_or ms w.among.0 0 ≡ w.holder = contains_at ms w.holder w.among in
    let later : 0 < w.among.0 = elim (cases_lt 0 w.among.0) [
      | inl z ↦ z
      | inr z ↦ let e : w.among.0 ≡ 0 = omega arith in absurd (w.other (sym at ∙ ap (λ (t : ℕ). get_or ms t 0) e))
    ] in
    subst (λ (y : ℕ). Contains (map place (rest ms)) y) (ap place at ∙ w.there) (rest_has place ms w.among.0 later w.among.1)) in
    omega arith

pub placed_but : (A : ℕ → ℕ → Bool) (other : ℕ) (ps : List ℕ) → IsPlaced A ps → IsPlacedBut A other ps
placed_but A other ps placed = record { accepted = λ i h ne. placed.accepted i h; apart = λ i j a b o o'. placed.apart i j a b }

-- ---- no room
-- no assignment has different members at positions that are taken
pub no_room : (A : ℕ → ℕ → Bool) (member count : ℕ) (ps ms others : List ℕ) → AreDistinct member count ms → IsPlaced A others → count ≤ length others
    → ((t : ℕ) → t < length ms → IsTaken ps ms (get_or others (get_or ms t 0) 0)) → ⊥
no_room A member count ps ms others distinct placed longer taken =
    let place : ℕ → ℕ = λ u. get_or others u 0 in
    let zs = map place ms in
    let as_many : length zs ≡ length ms = length-map ms place in
    let at : (k : ℕ) → k < length ms → get_or zs k 0 ≡ place (get_or ms k 0) = λ k h. get_or-map place ms k 0 0 h in
    let known : (k : ℕ) → k < length ms → get_or ms k 0 < length others = λ k h. let l : get_or ms k 0 < count = distinct.known k h in omega arith in
    let apart : IsApart zs = λ i j a b.
    let hj : j < length ms = omega arith in
    let hi : i < length ms = omega arith in
    rw (at i hi, at j hj) (differ others placed.apart (get_or ms i 0) (get_or ms j 0) (known i hi) (known j hj) (distinct.apart i j a hj)) in
    let few : length zs < length ms = rest_fewer ps ms zs distinct.some apart (λ k h.
    let hk : k < length ms = omega arith in
    let w = taken k hk in
    rw (at k hk) (record { holder = w.holder; other = w.other; there = w.there; among = w.among })) in
    omega arith

module _ (A : ℕ → ℕ → Bool) (stays : List Bool) (member parents : ℕ) (ps : List ℕ) (hs : List (Option ℕ)) (holders : AreHolders member parents ps hs) where
  -- a position that is closed, and no position of those that stay, is taken
  pub taken_closed : (ms : List ℕ) (j : ℕ) → get_or ms 0 0 ≡ member → IsClosed stays hs ms j → ((u : ℕ) → u < length ps → get_or stays u false ≡ true → get_or ps u 0 ≢ j) → IsTaken ps ms j
  taken_closed ms j one c out =
      let at = holders.held j c.holder c.held in
      record { holder = c.holder; other = λ e. at.1 (e ∙ one); there = at.2; among = elim c.which [ inl s ↦ absurd (out c.holder at.0 s at.2) | inr m ↦ m ] }

  module _ (r : Reached) (in_ps : member < length ps) (moves : get_or stays member false ≡ false) (reaches : Reaches A stays hs r) (long : length r.seen.items ≡ length ps) (grown : Grows (member ∷ []) r.members.items) where
    pub one : get_or r.members.items 0 0 ≡ member
    one = sym (grown.same 0 (omega arith))

    pub chain : IsChain member (length ps) r
    chain =
        record {
          one = one;
          in_count = in_ps;
          as_many = reaches.as_many;
          known = λ t h. let l : get_or r.members.items t 0 < length r.seen.items = reaches.known t h in omega arith;
          apart = reaches.apart;
          earlier = reaches.earlier;
        }

    all_move : (t : ℕ) → t < length r.members.items → get_or stays (get_or r.members.items t 0) false ≡ false
    all_move t h = elim (cases_lt 0 t) [
      | inl z ↦ reaches.moves t z h
      | inr z ↦ let e : t ≡ 0 = omega arith in let is : get_or r.members.items 0 0 ≡ member = one in rw (e, is) moves
    ]

    -- those reached before some time
    distinct_before : (ms : List ℕ) → 0 < length ms → Grows ms r.members.items → AreDistinct member (length ps) ms
    distinct_before ms some g =
        let longer : length ms ≤ length r.members.items = g.longer in
        record {
          some = some;
          one = g.same 0 some ∙ one;
          known = λ t h. rw (g.same t h) (chain.known t (omega arith));
          apart = λ i j a b. rw (g.same i (omega arith), g.same j b) (reaches.apart i j a (omega arith));
        }

    -- what an assignment gives the member, where none that moves has a position of those that stay
    pub least_below : (ms : List ℕ) (bound : ℕ) → 0 < length ms → Grows ms r.members.items → IsSearchedBelow A stays bound hs ms
        → (others : List ℕ) → IsPlaced A others → length ps ≤ length others
        → ((u v : ℕ) → u < length ps → v < length ps → get_or stays v false ≡ true → get_or stays u false ≡ false → get_or others u 0 ≢ get_or ps v 0)
        → bound ≤ get_or others member 0
    least_below ms bound some g searched others placed longer out = elim (cases_lt (get_or others member 0) bound) [
      | inr g ↦ g
      | inl l ↦
          let can = distinct_before ms some g in
          let is : get_or ms 0 0 ≡ member = can.one in
          let more : length ms ≤ length r.members.items = g.longer in
          absurd (no_room A member (length ps) ps ms others can placed longer (λ t h.
          let known : get_or ms t 0 < length ps = can.known t h in
          let moves' : get_or stays (get_or ms t 0) false ≡ false = rw (g.same t h) (all_move t (omega arith)) in
          let ok : A (get_or ms t 0) (get_or others (get_or ms t 0) 0) ≡ true = placed.accepted (get_or ms t 0) (omega arith) in
          taken_closed ms _ is (elim (cases_lt 0 t) [
            | inl z ↦ searched.later t _ z h ok
            | inr z ↦
                let e : t ≡ 0 = omega arith in
                let e' : get_or ms t 0 ≡ member = ap (λ (t : ℕ). get_or ms t 0) e ∙ is in
                let ok' : A (get_or ms 0 0) (get_or others (get_or ms t 0) 0) ≡ true = rw (is, ← e') ok in
                searched.below _ (rw e' l) ok'
          ]) (λ u hu s e. out (get_or ms t 0) u known hu s moves' (sym e))))
    ]

    module _ (at position : ℕ) (found : HasFound A stays hs r at position) where
      pub ready : IsPlacedBut A member ps → IsReady A (found.bound + 1) member ps r at position
      ready placed =
          let in_reached : at < length r.members.items = found.in_reached in
          record {
            placed = placed;
            chain = λ t a b.
                let via = reaches.via t a (omega arith) in
                rw ((holders.held via.position _ via.held).2) via.accepted;
            early = λ t a b root.
                let w = found.early t a (omega arith) root in
                rw ((holders.held w.0 _ w.1).2) w.2;
            accepted = found.free.0;
            free = holders.free position found.free.1;
            end_early = found.end_early;
          }

    -- where none stays
    pub stuck : ((u : ℕ) → get_or stays u false ≡ false) → ((i j : ℕ) → A i j ≡ true → j < parents) → IsSearchedBelow A stays parents hs r.members.items → IsStuck A member ps r.seen.items
    stuck all within searched =
        record {
          members = r.members.items;
          distinct = distinct_before r.members.items reaches.some (grows_refl r.members.items);
          as_long = long;
          flagged = reaches.flagged;
          set = reaches.flags;
          taken = λ t j h ok. taken_closed r.members.items j one (elim (cases_lt 0 t) [
            | inl z ↦ searched.later t j z h ok
            | inr z ↦
                let e : t ≡ 0 = omega arith in
                searched.below j (within _ j ok) (subst (λ (t : ℕ). A (get_or r.members.items t 0) j ≡ true) e ok)
          ]) (λ u hu s. let no = all u in absurd (cc));
        }

-- how many flags there are, of as many members
pub length-flags : (count member : ℕ) (flags seen : List Bool) → flags ≡ set (replicate count false) member true → length seen ≡ length flags → length seen ≡ count
length-flags count member flags seen is long =
    long ∙ ap (λ (flags : List Bool). length flags) is ∙ length-set (replicate count false) member true ∙ length-replicate count false

-- where a member is stuck there is no assignment
pub stuck_none : (A : ℕ → ℕ → Bool) (member : ℕ) (ps : List ℕ) (flags : List Bool) (others : List ℕ) → IsStuck A member ps flags → IsPlaced A others → length ps ≤ length others → ⊥
stuck_none A member ps flags others s placed longer =
    no_room A member (length ps) ps s.members others s.distinct placed longer (λ t h.
    let known : get_or s.members t 0 < length ps = s.distinct.known t h in
    s.taken t _ h (placed.accepted (get_or s.members t 0) (omega arith)))
