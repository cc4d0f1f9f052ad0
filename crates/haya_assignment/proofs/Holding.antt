-- Who has which position.
use Rattle.std.proofs.Common.{◌≡◌, ◌≢◌, ℕ, ◌+◌, ◌<◌, List, length, get_or, set, arith, refl, sym, ◌∙◌, ap, subst, inl, inr}
use Rattle.std.specs.Prelude.{Option, Some, None, replicate, slice_get}
use Rattle.std.proofs.lemmas.Bool.{cases_lt, cases_eq}
use Rattle.std.proofs.lemmas.List.{get_or-set_same, get_or-set_other, length-set, length-replicate, get_or-replicate}
use Rattle.std.proofs.lemmas.Option.{slice_get-get_or, slice_get_past, slice_get_within}
use Rattle.haya_assignment.specs.Search.{AreHolders}

-- the holders among the members below a number
pub record AreHoldersUpTo (n other parents : ℕ) (ps : List ℕ) (hs : List (Option ℕ)) : Type 0 where
  pub as_many : length hs ≡ parents
  pub free : (j : ℕ) → slice_get hs j ≡ Some None → (u : ℕ) → u < n → u ≢ other → get_or ps u 0 ≢ j
  pub held : (j u : ℕ) → slice_get hs j ≡ Some (Some u) → (u < n) × (u ≢ other) × (get_or ps u 0 ≡ j)

abbrev empty : Option ℕ
empty = None

pub holders_none : (other parents : ℕ) (ps : List ℕ) → AreHoldersUpTo 0 other parents ps (replicate parents None)
holders_none other parents ps =
    record {
      as_many = length-replicate parents None;
      free = λ j e u h. absurd (omega arith);
      held = λ j u e.
          let within : j < length (replicate parents None) = slice_get_within (replicate parents None) j (Some u) e in
          let l : j < parents = let long : length (replicate parents empty) ≡ parents = length-replicate parents empty in omega arith in
          let none : slice_get (replicate parents None) j ≡ Some None = slice_get-get_or (replicate parents None) j None within ∙ ap (λ (o : Option ℕ). Some o) (get_or-replicate parents j None None l) in
          absurd (cc);
    }

-- a write that isn't at the place changes nothing there
other_place : {X : Type 0} (xs : List X) (i j : ℕ) (x d : X) → j ≢ i → slice_get (set xs i x) j ≡ slice_get xs j
other_place {X = X} xs i j x d ne = elim (cases_lt j (length xs)) [
  | inl l ↦
      let l' : j < length (set xs i x) = omega (arith, length-set xs i x) in
      slice_get-get_or (set xs i x) j d l' ∙ ap (λ (x : X). Some x) (get_or-set_other xs i j x d ne) ∙ sym (slice_get-get_or xs j d l)
  | inr g ↦ slice_get_past (set xs i x) j (omega (arith, length-set xs i x)) ∙ sym (slice_get_past xs j g)
]

same_place : {X : Type 0} (xs : List X) (i : ℕ) (x : X) → i < length xs → slice_get (set xs i x) i ≡ Some x
same_place {X = X} xs i x l =
    let l' : i < length (set xs i x) = omega (arith, length-set xs i x) in
    slice_get-get_or (set xs i x) i x l' ∙ ap (λ (x : X). Some x) (get_or-set_same xs i x x l)

pub holders_skip : (n other parents : ℕ) (ps : List ℕ) (hs : List (Option ℕ)) → n ≡ other → AreHoldersUpTo n other parents ps hs → AreHoldersUpTo (n + 1) other parents ps hs
holders_skip n other parents ps hs is r =
    record {
      as_many = r.as_many;
      free = λ j e u h ne. r.free j e u (omega arith) ne;
      held = λ j u e. let w = r.held j u e in let l : u < n = w.0 in (omega arith, w.1, w.2);
    }

pub holders_more : (n other parents : ℕ) (ps : List ℕ) (hs : List (Option ℕ)) → n ≢ other → get_or ps n 0 < parents → AreHoldersUpTo n other parents ps hs → AreHoldersUpTo (n + 1) other parents ps (set hs (get_or ps n 0) (Some n))
holders_more n other parents ps hs ne within r =
    let j' = get_or ps n 0 in
    let in_hs : j' < length hs = omega (arith, r.as_many) in
    let here : slice_get (set hs j' (Some n)) j' ≡ Some (Some n) = same_place hs j' (Some n) in_hs in
    record {
      as_many = length-set hs j' (Some n) ∙ r.as_many;
      free = λ j e u h o. elim (cases_eq j j') [
        | inl same ↦ absurd (let at : slice_get (set hs j' (Some n)) j' ≡ Some None = subst (λ (j : ℕ). slice_get (set hs j' (Some n)) j ≡ Some None) same e in cc)
        | inr other ↦ elim (cases_lt u n) [
          | inl l ↦ r.free j (sym (other_place hs j' j (Some n) None other) ∙ e) u l o
          | inr g ↦ let last : u ≡ n = omega arith in rw last (λ e. other (sym e))
        ]
      ];
      held = λ j u e. elim (cases_eq j j') [
        | inl same ↦
            let at : slice_get (set hs j' (Some n)) j' ≡ Some (Some u) = subst (λ (j : ℕ). slice_get (set hs j' (Some n)) j ≡ Some (Some u)) same e in
            let last : n ≡ u = cc in
            rw (← last, same) (omega arith, ne, refl)
        | inr other ↦
            let w = r.held j u (sym (other_place hs j' j (Some n) None other) ∙ e) in
            let l : u < n = w.0 in
            (omega arith, w.1, w.2)
      ];
    }

pub holders_all : (other parents : ℕ) (ps : List ℕ) (hs : List (Option ℕ)) → AreHoldersUpTo (length ps) other parents ps hs → AreHolders other parents ps hs
holders_all other parents ps hs r = record { as_many = r.as_many; free = r.free; held = r.held }
