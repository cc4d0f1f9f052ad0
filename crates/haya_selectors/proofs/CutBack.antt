-- A list of bindings that is cut back.
use Rattle.std.proofs.Common.{◌≡◌, ◌≤◌, ℕ, Bool, true, false, List, [], ◌∷◌, ◌++◌, Some, length, take, refl, sym, ap, ◌∙◌, arith, ◌<◌, subst}
use Rattle.std.specs.Prelude.{All, IfOk, OnSome, Option, None, Result, Ok, Err, slice_get}
use Rattle.std.specs.Bool.{OnTrue}
use Rattle.std.proofs.Math.Seq.{take-length}
use Rattle.std.proofs.lemmas.List.Elements.{All-head}
use Rattle.std.proofs.lemmas.List.{length-map, length-take, map-append, take-append-le, take-map}
use Rattle.haya_entry.specs.declared.entry.Entry.{Entry}
use Rattle.haya_entry.specs.Tree.{Tree, view, at_list}
use Rattle.haya_selectors.specs.Binds.{Pairs, pair_of_first}
use Rattle.haya_selectors.specs.Compiled.{name_of}
use Rattle.haya_selectors.specs.declared.nodes.Nodes.{Nodes}
use Rattle.haya_selectors.specs.Evaluation.{AddsAt, AddsAtIf, AddsOn, AddsOnIf, EntryPairs, KeepsFound, pair_entries, pairs_view}
use Rattle.haya_selectors.specs.Nodes.{slot_names}

-- what was there at first still leads what is added to
kept_next : {A : Type 0} (olds mids news added : List A) → take (length olds) mids ≡ olds → news ≡ mids ++ added → take (length olds) news ≡ olds
kept_next olds mids news added h k =
    let fits : length olds ≤ length mids = omega (arith, ap length h, length-take (length olds) mids) in
    rw (k, take-append-le (length olds) mids added fits) h

module _ (nodes : Nodes) (olds : EntryPairs) where
  abbrev value : ℕ × Entry → List ℕ × Option Tree
  value p = (name_of (slot_names nodes) p.0, Some (view p.1))

  abbrev found : EntryPairs → List (List ℕ × Option Tree)
  found = pairs_view (slot_names nodes)

  -- pairs that are added stand behind what was found
  pub kept_more : (mids news : EntryPairs) (added : List (List ℕ × Option Tree)) → KeepsFound nodes olds mids
      → pairs_view (slot_names nodes) news ≡ pairs_view (slot_names nodes) mids ++ added → KeepsFound nodes olds news
  kept_more mids news added h k =
      let l = length-map olds value in
      ap (λ n. take n (found news)) (sym l) ∙ kept_next (found olds) (found mids) (found news) added (ap (λ n. take n (found mids)) l ∙ h) k

  pub kept_added : (news : EntryPairs) (added : List (List ℕ × Option Tree))
      → pairs_view (slot_names nodes) news ≡ pairs_view (slot_names nodes) olds ++ added → KeepsFound nodes olds news
  kept_added news added k = kept_more olds news added (ap (λ n. take n (found olds)) (sym (length-map olds value)) ∙ take-length (found olds)) k

  pub no_longer : (mids : EntryPairs) → KeepsFound nodes olds mids → length olds ≤ length mids
  no_longer mids h = omega (arith, ap length h, length-take (length olds) (found mids), length-map olds value, length-map mids value)

  pub cut_back : (mids news : EntryPairs) → KeepsFound nodes olds mids → news ≡ take (length olds) mids
      → pairs_view (slot_names nodes) news ≡ pairs_view (slot_names nodes) olds
  cut_back mids news h e = ap found e ∙ sym (take-map value (length olds) mids) ∙ h

  -- what was added where a selector holds
  pub added_at : {E : Type 0} (r : Result Bool E) (news : EntryPairs) (x : Tree) (pairs : Tree → Pairs) (same : Pairs) → pairs x ≡ same
      → IfOk r (AddsAtIf nodes x olds news pairs) → IfOk r (λ b. OnTrue b (AddsAt (slot_names nodes) x olds news same))
  added_at (Ok true) news x pairs same e h = rw (← e) h
  added_at (Ok false) news x pairs same e h = tt
  added_at (Err f) news x pairs same e h = tt

  pub added_on : {A E : Type 0} (r : Result (Option A) E) (news : EntryPairs) (xs : List Tree) (pairs : List Tree → Pairs) (same : Pairs) → pairs xs ≡ same
      → IfOk r (AddsOnIf nodes xs olds news pairs) → IfOk r (λ o. OnSome o (AddsOn (slot_names nodes) xs olds news same))
  added_on (Ok (Some o)) news xs pairs same e h = rw (← e) h
  added_on (Ok None) news xs pairs same e h = tt
  added_on (Err f) news xs pairs same e h = tt

-- a binding that is added at the first place of a list
pub bound_first : (names : List (List ℕ)) (xs : List Tree) (places : List ℕ) (i slot : ℕ) (e : Entry) (olds news : EntryPairs)
    → slice_get places 0 ≡ Some i → slice_get xs i ≡ Some (view e) → news ≡ olds ++ (slot, e) ∷ []
    → pairs_view names news ≡ pairs_view names olds ++ pair_entries (at_list xs) (pair_of_first (name_of names slot) (Some places))
bound_first names xs [] i slot e olds news h k n = absurd (cc)
bound_first names xs (j ∷ js) i slot e olds news h k n =
    let same : j ≡ i = cc in
    rw (n, map-append, same, k) refl

-- the first of places is one of them
pub first_in : (most : ℕ) (is : List ℕ) (i : ℕ) → All (λ j. j < most) is → slice_get is 0 ≡ Some i → i < most
first_in most [] i h e = absurd (cc)
first_in most (j ∷ js) i h e = let same : j ≡ i = cc in subst (λ n. n < most) same (All-head (λ n. n < most) j js h)
