-- Names without a sign `=`: their first part has none either.
use Rattle.std.proofs.Common.{◌≡◌, ◌+◌, ◌≤◌, ℕ, suc, Bool, true, false, not, nat_lt, List, [], ◌∷◌, Option, None, Some, cond, length, option_map, refl, ap, sym, arith}
use Rattle.std.proofs.lemmas.Bool.Decides.{nat_tests}
use Rattle.std.proofs.lemmas.List.Sums.{prefix_len-le-length}
use Rattle.std.specs.List.{list_all, onto_first, position, position_or_len, slice_split}
use Rattle.haya_bibtex_names.specs.Extended.{is_extended, is_labelled}
use Rattle.haya_bibtex_names.specs.Parts.{sides}
use Rattle.haya_bibtex_names.specs.Signs.{is_sign}
use Rattle.haya_bibtex_names.specs.Words.{Text}
use Rattle.haya_latex.specs.declared.kinds.Kind.{Kind}

-- the first of these parts has no such sign
record Unlabelled (parts : List Text) : Type 0 where
  first : Text
  rest : List Text
  is : parts ≡ first ∷ rest
  none : position_or_len (is_sign 61) first ≡ length first

none_inside : {X Y : Type 0} (f : X → Y) (r : Option X) → option_map f r ≡ None → r ≡ None
none_inside f None h = refl
none_inside f (Some x) h = cc

at_end : (n m : ℕ) → n ≤ m → cond (nat_lt n m) (Some n) None ≡ None → n ≡ m
at_end n m l h = grind (arith, nat_tests)

none_before : (n m : ℕ) → n ≡ m → cond (nat_lt n m) (Some n) None ≡ None
none_before n m e = grind (arith, nat_tests)

no_sign : (b : Bool) (n m : ℕ) → cond (not b) (1 + n) 0 ≡ suc m → (b ≡ false) × (n ≡ m)
no_sign true n m h = absurd (omega arith)
no_sign false n m h = (refl, omega arith)

onto : (x : ℕ × Kind) (parts : List Text) → Unlabelled parts → is_sign 61 x ≡ false → Unlabelled (onto_first x parts)
onto x parts w e = record {
  first = x ∷ w.first;
  rest = w.rest;
  is = ap (onto_first x) w.is;
  none = rw (e, w.none) (omega arith);
}

unlabelled : (xs : Text) → position_or_len (is_sign 61) xs ≡ length xs → Unlabelled (slice_split (is_sign 44) xs)
unlabelled [] h = record { first = []; rest = []; is = refl; none = refl }
unlabelled (x ∷ xs) h =
    let p = no_sign (is_sign 61 x) (position_or_len (is_sign 61) xs) (length xs) h in
    elim (is_sign 44 x) as (λ b. Unlabelled (cond b ([] ∷ slice_split (is_sign 44) xs) (onto_first x (slice_split (is_sign 44) xs)))) [
      | true ↦ record { first = []; rest = slice_split (is_sign 44) xs; is = refl; none = refl }
      | false ↦ onto x (slice_split (is_sign 44) xs) (unlabelled xs p.1) p.0
    ]

no_place : (xs : Text) → position_or_len (is_sign 61) xs ≡ length xs → position (is_sign 61) xs ≡ None
no_place xs h = none_before (position_or_len (is_sign 61) xs) (length xs) h

not_labelled : (parts : List Text) → Unlabelled parts → list_all is_labelled parts ≡ false
not_labelled parts w = rw (w.is, no_place w.first w.none) refl

pub not_extended : (xs : Text) → sides 61 xs ≡ None → false ≡ is_extended xs
not_extended xs h =
    let none : position (is_sign 61) xs ≡ None = none_inside _ (position (is_sign 61) xs) h in
    let end : position_or_len (is_sign 61) xs ≡ length xs =
    at_end (position_or_len (is_sign 61) xs) (length xs) (prefix_len-le-length (λ x. not (is_sign 61 x)) xs) none in
    sym (not_labelled (slice_split (is_sign 44) xs) (unlabelled xs end))
