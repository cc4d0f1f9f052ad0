-- Rows that each take the first position that is left.
use Rattle.std.proofs.Common.{◌≡◌, ◌≢◌, ℕ, ◌<◌, subst, Bool, true, false, List, [], ◌∷◌, ◌++◌, Option, None, Some, length, get_or, set, refl, sym, ap, ◌∙◌, append_assoc, arith, inl, inr}
use Rattle.std.specs.Prelude.{◌||◌, ◌==◌, option_map, replicate, slice_get}
use Rattle.std.specs.List.{list_any}
use Rattle.std.proofs.lemmas.Bool.{cases_lt, cases_eq}
use Rattle.std.proofs.lemmas.Bool.Decides.{Decides-eqb}
use Rattle.std.proofs.lemmas.List.{get_or_append_left, get_or-replicate, get_or-set_other, get_or-set_same, length-replicate, length-set}
use Rattle.std.proofs.lemmas.List.Elements.{Contains-get_or}
use Rattle.std.proofs.lemmas.Option.{slice_get-get_or}
use Rattle.haya_assignment.specs.Assignment.{Table, greedy_beside, not_taken, true_positions}
use Rattle.haya_assignment.specs.Placed.{IsPlaced}
use Rattle.haya_assignment.proofs.Numbers.{at_more}
use Rattle.haya_assignment.proofs.Listing.{Contains-from_not_taken, Contains-from_true_positions, Contains-not_taken, Contains-true_positions, IsFree, not_taken_ascends}

-- a position that is left, with none before it, is the first
pub first_is : (taken : List ℕ) (row : List Bool) (j : ℕ) → get_or row j false ≡ true → IsFree taken j → ((k : ℕ) → k < j → get_or row k false ≡ true → ¬ IsFree taken k)
    → slice_get (not_taken taken (true_positions row)) 0 ≡ Some j
first_is taken row j ok free before =
    let xs = not_taken taken (true_positions row) in
    let c = Contains-not_taken taken (true_positions row) j (Contains-true_positions row j ok) free in
    let some : 0 < length xs = let l : c.0 < length xs = c.1 in omega arith in
    elim (cases_lt 0 c.0) [
      | inl z ↦
          let less : get_or xs 0 j < get_or xs c.0 j = not_taken_ascends taken row 0 c.0 j z c.1 in
          let at : get_or xs c.0 j ≡ j = c.2 in
          let w = Contains-from_not_taken taken (true_positions row) (get_or xs 0 j) (Contains-get_or xs 0 j some) in
          absurd (before (get_or xs 0 j) (omega arith) (Contains-from_true_positions row (get_or xs 0 j) w.0) w.1)
      | inr z ↦
          let e : 0 ≡ c.0 = omega arith in
          slice_get-get_or xs 0 j some ∙ ap (λ (k : ℕ). Some (get_or xs k j)) e ∙ ap (λ (x : ℕ). Some x) c.2
    ]

-- the flags of the positions that are taken are set
abbrev pub AreFlags : List ℕ → List Bool → Type 0
AreFlags taken flags = (j : ℕ) → j < length flags → get_or flags j false ≡ list_any (λ t. t == j) taken

pub flags_none : (n : ℕ) → AreFlags [] (replicate n false)
flags_none n = λ j l. get_or-replicate n j false false (let long : length (replicate n false) ≡ n = length-replicate n false in omega arith)

pub flags_more : (taken : List ℕ) (flags : List Bool) (i : ℕ) → i < length flags → AreFlags taken flags → AreFlags (i ∷ taken) (set flags i true)
flags_more taken flags i within are = λ j l.
    let long : length (set flags i true) ≡ length flags = length-set flags i true in
    (elim (i == j) as (λ b. (i == j) ≡ b → get_or (set flags i true) j false ≡ (b || list_any (λ t. t == j) taken)) [
      | true ↦ λ e. let same : i ≡ j = (Decides-eqb i j).0 e in rw (← same) (get_or-set_same flags i true false within)
      | false ↦ λ e.
          get_or-set_other flags i j true false (λ same. let yes : (i == j) ≡ true = (Decides-eqb i j).1 (sym same) in absurd (cc))
          ∙ are j (omega arith)
    ]) refl

-- the first row's position goes before those of the other rows
pub greedy_more : (taken before : List ℕ) (row : List Bool) (rows : Table) (i : ℕ) → slice_get (not_taken taken (true_positions row)) 0 ≡ Some i
    → option_map (λ is. before ++ is) (greedy_beside taken (row ∷ rows)) ≡ option_map (λ is. (before ++ i ∷ []) ++ is) (greedy_beside (i ∷ taken) rows)
greedy_more taken before row rows i e = rw e (by (greedy_beside (i ∷ taken) rows)) where
  by : (o : Option (List ℕ)) → option_map (λ is. before ++ is) (option_map (λ is. i ∷ is) o) ≡ option_map (λ is. (before ++ i ∷ []) ++ is) o
  by None = refl
  by (Some is) = ap (λ (js : List ℕ). Some js) (sym (append_assoc before (i ∷ []) is))

-- ---- one more member has a position
pub placed_push : (A : ℕ → ℕ → Bool) (ps : List ℕ) (j : ℕ) → IsPlaced A ps → A (length ps) j ≡ true → ((u : ℕ) → u < length ps → get_or ps u 0 ≢ j) → IsPlaced A (ps ++ j ∷ [])
placed_push A ps j placed ok new =
    record {
      accepted = at_more (λ k x. A k x ≡ true) ps j 0 placed.accepted ok;
      apart = λ i k a b. at_more (λ k x. (l : ℕ) → l < k → get_or (ps ++ j ∷ []) l 0 ≢ x) ps j 0
          (λ k h l z. let l' : l < length ps = omega arith in rw (get_or_append_left ps (j ∷ []) 0 l l') (placed.apart l k z h))
          (λ l z. rw (get_or_append_left ps (j ∷ []) 0 l z) (new l z)) k b i a;
    }

pub held_push : (flags : List Bool) (ps : List ℕ) (j : ℕ) → j < length flags → ((u : ℕ) → u < length ps → get_or flags (get_or ps u 0) false ≡ true) → (u : ℕ) → u < length (ps ++ j ∷ []) → get_or (set flags j true) (get_or (ps ++ j ∷ []) u 0) false ≡ true
held_push flags ps j within held =
    let here : get_or (set flags j true) j false ≡ true = get_or-set_same flags j true false within in
    at_more (λ k x. get_or (set flags j true) x false ≡ true) ps j 0
    (λ u h. elim (cases_eq (get_or ps u 0) j) [
      | inl e ↦ rw e here
      | inr ne ↦ get_or-set_other flags j (get_or ps u 0) true false ne ∙ held u h
    ]) here

-- a position that isn't flagged is that of none
pub none_there : (flags : List Bool) (ps : List ℕ) (j : ℕ) → get_or flags j false ≡ false → ((u : ℕ) → u < length ps → get_or flags (get_or ps u 0) false ≡ true) → (u : ℕ) → u < length ps → get_or ps u 0 ≢ j
none_there flags ps j left held u h e = let set : get_or flags j false ≡ true = subst (λ (x : ℕ). get_or flags x false ≡ true) e (held u h) in absurd (cc)
