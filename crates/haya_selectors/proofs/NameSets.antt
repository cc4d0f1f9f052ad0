-- Sets of fields.
use Rattle.std.proofs.Common.{◌≡◌, ◌≢◌, ◌<◌, ℕ, zero, suc, ◌+◌, ◌*◌, ◌%◌, ◌^◌, Bool, true, false, List, [], ◌∷◌, ◌++◌, None, Some, length, get_or, refl, sym, ap, subst, ◌∙◌, ◌⊎◌, inl, inr, arith, w32}
use Rattle.std.specs.Prelude.{◌&&◌, ◌==◌, bit_and, bit_or}
use Rattle.std.specs.Int.{bit_at, bit_not}
use Rattle.std.specs.Option.{option_map_or}
use denote.Enum.Bare.{tag_one}
use denote.Enum.Enum.{tag_below}
use denote.Enum.Declared.{rowss}
use Rattle.haya_text.proofs.Tells.{and-both}
use Rattle.std.proofs.lemmas.Bool.{cases_eq}
use Rattle.std.proofs.lemmas.Bool.Decides.{nat_tests}
use Rattle.std.proofs.lemmas.List.Folds.{list_all-append}
use Rattle.std.proofs.lemmas.Nat.{and_le_l}
use Rattle.std.proofs.lemmas.Nat.Bits.{bit_at_and, bit_at_not, bit_at-zero, bit_at-lt, bit_at_set_same, bit_at_set_other, bit_at_clear_same, bit_at_clear_other, same_from_bits_below}
use Rattle.haya_entry.specs.contracts.field_name.FieldName.{the_type}
use Rattle.haya_entry.specs.declared.field_name.FieldName.{FieldName}
use Rattle.haya_entry.specs.declared.field_name.FieldName.TheVariants.{Title}
use Rattle.haya_entry.specs.FieldName.{all_fields, field_named}
use Rattle.haya_entry.specs.Names.{has_field, has_name, has_all}
use Rattle.haya_entry.specs.Tree.{Tree}
use Rattle.haya_selectors.specs.NameNumbers.{place_of, IsIn, SameOthers, HasFields, StandsForNames, IsHad}

-- ---- places
pub place_small : (field : FieldName) → place_of field < 32
place_small field = tag_below (rowss the_type.parts) (the_type.to field)

same_place : (a b : FieldName) → place_of a ≡ place_of b → a ≡ b
same_place a b e = tag_one the_type tt a b e

pub cases_field : (a b : FieldName) → (a ≡ b) ⊎ (a ≢ b)
cases_field a b =
    elim (cases_eq (place_of a) (place_of b)) [
      | inl same ↦ inl (same_place a b same)
      | inr apart ↦ inr (λ e. apart (ap place_of e))
    ]

abbrev are_from : ℕ → List FieldName → Bool
are_from k [] = true
are_from k (f ∷ fs) = (place_of f == k) && are_from (suc k) fs

in_order : (d : FieldName) (fs : List FieldName) (k : ℕ) → are_from k fs ≡ true → (i : ℕ) → i < length fs → place_of (get_or fs i d) ≡ k + i
in_order d [] k h i l = absurd (omega arith)
in_order d (f ∷ fs) k h zero l =
    let here = (and-both (place_of f == k) (are_from (suc k) fs) h).0 in
    grind (arith, nat_tests, here)
in_order d (f ∷ fs) k h (suc i) l =
    let later = in_order d fs (suc k) (and-both (place_of f == k) (are_from (suc k) fs) h).1 i (omega arith) in
    omega (arith, later)

-- the fields stand at their places
pub place_at : (d : FieldName) (i : ℕ) → i < 32 → place_of (get_or all_fields i d) ≡ i
place_at d i l = let from_none = in_order d all_fields 0 refl i l in omega (arith, from_none)

-- ---- a set with one field more, or less
pub with_bit : (set : ℕ) (field : FieldName) → let new = bit_or set (1 * 2 ^ place_of field % 2 ^ 32) in IsIn field new × SameOthers field set new
with_bit set field =
    let small = place_small field in (
      bit_at_set_same w32 set (place_of field) small,
      λ other apart.
          let same = bit_at_set_other w32 set (place_of field) small (place_of other) (λ e. apart (same_place other field e)) in
          (λ h. sym same ∙ h, λ h. same ∙ h),
    )

pub without_bit : (set : ℕ) (field : FieldName) → IsIn field set
    → let new = bit_and set (bit_not w32 (1 * 2 ^ place_of field % 2 ^ 32)) in
    (new < set) × ((IsIn field new → ⊥) × SameOthers field set new)
without_bit set field isin =
    let small = place_small field in
    let k = place_of field in
    let new : ℕ = bit_and set (bit_not w32 (1 * 2 ^ k % 2 ^ 32)) in
    let gone : bit_at new k ≡ 0 = bit_at_clear_same w32 set k small in (
      elim (cases_eq new set) [
        | inl same ↦ absurd (let both : bit_at new k ≡ bit_at set k = ap (λ x. bit_at x k) same in omega arith)
        | inr other ↦ omega (arith, and_le_l set (bit_not w32 (1 * 2 ^ k % 2 ^ 32)))
      ],
      (
        λ h. absurd (omega (arith, h, gone)),
        λ other apart.
            let same = bit_at_clear_other w32 set k small (place_of other) (place_small other) (λ e. apart (same_place other field e)) in
            (λ h. sym same ∙ h, λ h. same ∙ h),
      ),
    )

-- ---- a list's set, name by name
module _ (set : ℕ) (unknown : Bool) (names : List (List ℕ)) (n : List ℕ) (stands : StandsForNames set unknown names) where
  split : (x : Tree) → has_all (names ++ n ∷ []) x ≡ true → (has_all names x ≡ true) × (has_name x n ≡ true)
  split x h =
      let two = and-both (has_all names x) (has_all (n ∷ []) x) (sym (list_all-append (has_name x) names (n ∷ [])) ∙ h) in
      (two.0, (and-both (has_name x n) true two.1).0)

  join : (x : Tree) → has_all names x ≡ true → has_name x n ≡ true → has_all (names ++ n ∷ []) x ≡ true
  join x h k = list_all-append (has_name x) names (n ∷ []) ∙ rw (h, k) refl

  pub with_known : (field : FieldName) → field_named n ≡ Some field → (new : ℕ) → IsIn field new → SameOthers field set new → StandsForNames new unknown (names ++ n ∷ [])
  with_known field e new isin others x =
      let is : has_name x n ≡ has_field x field = ap (λ o. option_map_or (has_field x) o false) e in (
        λ h.
            let two = split x h in
            let old = (stands x).0 two.0 in (
              old.0,
              λ f inside.
                  elim (cases_field f field) [
                    | inl same ↦ rw same (sym is ∙ two.1)
                    | inr apart ↦ old.1 f ((others f apart).0 inside)
                  ],
            ),
        λ h.
            let had : HasFields x set = λ f inside.
            elim (cases_field f field) [
              | inl same ↦ h.1 f (rw same isin)
              | inr apart ↦ h.1 f ((others f apart).1 inside)
            ] in
            join x ((stands x).1 (h.0, had)) (is ∙ h.1 field isin),
      )

  pub with_unknown : field_named n ≡ None → StandsForNames set true (names ++ n ∷ [])
  with_unknown e x =
      let no : has_name x n ≡ false = ap (λ o. option_map_or (has_field x) o false) e in
      (λ h. absurd (let yes = (split x h).1 in cc), λ h. absurd (let not = h.0 in cc))

-- ---- two sets
module _ (a b : ℕ) (fits_a : a < 2 ^ 32) (fits_b : b < 2 ^ 32) where
  -- no field of one set is missing in the other
  pub within_set : bit_and a (bit_not w32 b) ≡ 0 → (field : FieldName) → IsIn field a → IsIn field b
  within_set e field isin =
      let i = place_of field in
      let zero : bit_at (bit_and a (bit_not w32 b)) i ≡ 0 = ap (λ n. bit_at n i) e ∙ bit_at-zero i in
      omega (arith, zero, isin, bit_at_and a (bit_not w32 b) i, bit_at_not w32 b i fits_b (place_small field), bit_at-lt b i)

  pub set_within : ((field : FieldName) → IsIn field a → IsIn field b) → bit_and a (bit_not w32 b) ≡ 0
  set_within h =
      same_from_bits_below 32 (bit_and a (bit_not w32 b)) 0 (omega (arith, and_le_l a (bit_not w32 b), fits_a)) (omega arith) (λ i small.
      let n = bit_at_not w32 b i fits_b small in
      let at = place_at Title i small in
      bit_at_and a (bit_not w32 b) i ∙ (elim (cases_eq (bit_at a i) 1) [
        | inl is ↦ let both : bit_at b i ≡ 1 = subst (λ k. bit_at b k ≡ 1) at (h (get_or all_fields i Title) (subst (λ k. bit_at a k ≡ 1) (sym at) is)) in omega (arith, is, both, n)
        | inr isnt ↦ omega (arith, isnt, bit_at-lt a i)
      ]) ∙ sym (bit_at-zero i))

same_bool : (a b : Bool) → (a ≡ true → b ≡ true) → (b ≡ true → a ≡ true) → a ≡ b
same_bool true b f g = sym (f refl)
same_bool false true f g = g refl
same_bool false false f g = refl

-- what is computed from a list's set, where the mark isn't set, and from an entry's
pub set_tells : (set : ℕ) (unknown : Bool) (names : List (List ℕ)) (x : Tree) (asked had : ℕ) → set < 2 ^ 32 → had < 2 ^ 32 → unknown ≡ false
    → StandsForNames set unknown names → IsHad x asked had → ((field : FieldName) → IsIn field set → IsIn field asked)
    → (bit_and set (bit_not w32 had) == 0) ≡ has_all names x
set_tells set unknown names x asked had fits_set fits_had known stands is all =
    same_bool (bit_and set (bit_not w32 had) == 0) (has_all names x)
    (λ h.
    let zero : bit_and set (bit_not w32 had) ≡ 0 = grind (arith, nat_tests, h) in
    (stands x).1 (known, λ f isin. (is f (all f isin)).0 (within_set set had fits_set fits_had zero f isin)))
    (λ h.
    let has = ((stands x).0 h).1 in
    let zero = set_within set had fits_set fits_had (λ f isin. (is f (all f isin)).1 (has f isin)) in
    grind (arith, nat_tests, zero))
