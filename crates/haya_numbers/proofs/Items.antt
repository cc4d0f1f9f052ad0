-- The numbers of a set, one after another.
use Rattle.std.proofs.Common.{◌≡◌, ℕ, zero, suc, ◌<◌, ◌≤◌, Bool, true, false, List, [], ◌∷◌, ◌++◌, length, refl, ap, sym, ℤ, Option, Some, None, arith, cond, append_assoc, subst}
use Rattle.std.specs.Prelude.{option_map, nat_eq, is_some}
use Rattle.std.specs.Char.{is_whitespace}
use Rattle.std.specs.Str.{skip_leading_whitespace}
use Rattle.haya_numbers.specs.declared.numeric.NumericDelimiter.{NumericDelimiter}
use Rattle.haya_text.specs.Characters.{hyphen, is_numeric, run, behind_run, begins_with}
use Rattle.haya_numbers.specs.Characters.{is_delimiter}
use Rattle.haya_numbers.specs.Classes.{appended}
use Rattle.haya_numbers.specs.Numeric.{Item}
use Rattle.haya_numbers.specs.NumericReading.{magnitude, past_sign, signed, number_front, delimited, item_front, items_front}

pub behind_run-le : (p : ℕ → Bool) (cs : List ℕ) → length (behind_run p cs) ≤ length cs
behind_run-le p [] = omega arith
behind_run-le p (c ∷ cs) = go (p c) (behind_run-le p cs)
  where
    go : (b : Bool) → length (behind_run p cs) ≤ length cs → length (cond b (behind_run p cs) (c ∷ cs)) ≤ suc (length cs)
    go true h = omega arith
    go false h = omega arith

pub skip-le : (cs : List ℕ) → length (skip_leading_whitespace cs) ≤ length cs
skip-le [] = omega arith
skip-le (c ∷ cs) = go (is_whitespace c) (skip-le cs)
  where
    go : (b : Bool) → length (skip_leading_whitespace cs) ≤ length cs → length (cond b (skip_leading_whitespace cs) (c ∷ cs)) ≤ suc (length cs)
    go true h = omega arith
    go false h = omega arith

behind_run-lt : (p : ℕ → Bool) (cs : List ℕ) → 0 < length (run p cs) → length (behind_run p cs) < length cs
behind_run-lt p [] h = absurd (omega arith)
behind_run-lt p (c ∷ cs) h = go (p c) h
  where
    go : (b : Bool) → 0 < length (cond b (c ∷ run p cs) []) → length (cond b (behind_run p cs) (c ∷ cs)) < suc (length cs)
    go true k = omega (arith, behind_run-le p cs)
    go false k = absurd (omega arith)

past_sign-le : (cs : List ℕ) → length (past_sign cs) ≤ length cs
past_sign-le [] = omega arith
past_sign-le (c ∷ cs) = go _
  where
    go : (b : Bool) → length (cond b cs (c ∷ cs)) ≤ suc (length cs)
    go true = omega arith
    go false = omega arith

magnitude-nonempty : (ds : List ℕ) (m : ℕ) → magnitude ds ≡ Some m → 0 < length ds
magnitude-nonempty [] m e = cc
magnitude-nonempty (c ∷ cs) m e = omega arith

some_inside : {A : Type 0} {a b : A} → Some a ≡ Some b → a ≡ b
some_inside e = cc

-- a number takes a character at least
pub number-shorter : (cs rest : List ℕ) (n : ℤ) → number_front cs ≡ Some (n, rest) → length rest < length cs
number-shorter cs rest n e = go (magnitude (run is_numeric (past_sign cs))) refl e
  where
    go : (m : Option ℕ) → magnitude (run is_numeric (past_sign cs)) ≡ m
        → option_map {U = ℤ × List ℕ} (λ v. (signed (begins_with (λ c. nat_eq c hyphen) cs) v, behind_run is_numeric (past_sign cs))) m ≡ Some (n, rest) → length rest < length cs
    go None h k = cc
    go (Some m) h k =
        let same : behind_run is_numeric (past_sign cs) ≡ rest = ap (λ (p : ℤ × List ℕ). p.1) (some_inside k) in
        let some = magnitude-nonempty (run is_numeric (past_sign cs)) m h in
        subst (λ (r : List ℕ). length r < length cs) same (omega (arith, behind_run-lt is_numeric (past_sign cs) some, past_sign-le cs))

pub item-shorter : (cs rest : List ℕ) (i : Item) → item_front cs ≡ Some (i, rest) → length rest < length cs
item-shorter cs rest i e = go (number_front (skip_leading_whitespace cs)) refl e
  where
    go : (m : Option (ℤ × List ℕ)) → number_front (skip_leading_whitespace cs) ≡ m → option_map (λ p. delimited p.0 (skip_leading_whitespace p.1)) m ≡ Some (i, rest) → length rest < length cs
    go None h k = cc
    go (Some (n, behind)) h k =
        let same : behind_run is_delimiter (skip_leading_whitespace behind) ≡ rest = ap (λ (p : Item × List ℕ). p.1) (some_inside k) in
        let short = number-shorter (skip_leading_whitespace cs) behind n h in
        subst (λ (r : List ℕ). length r < length cs) same (omega (arith, behind_run-le is_delimiter (skip_leading_whitespace behind), skip-le behind, skip-le cs))

-- one more number of a set, where a delimiter follows it
pub items-more : (set : List Item) (i : Item) (d : NumericDelimiter) (most : ℕ) (cs rest : List ℕ) → item_front cs ≡ Some (i, rest) → i.1 ≡ Some d → length cs ≤ most
    → (k : ℕ) × (length rest ≤ k) × (appended set (items_front most cs) ≡ appended (set ++ i ∷ []) (items_front k rest))
items-more set (n, j) d zero cs rest e s l = let short = item-shorter cs rest (n, j) e in absurd (omega arith)
items-more set (n, j) d (suc most) cs rest e s l =
    let short = item-shorter cs rest (n, j) e in
    (most, omega arith, rw (e, s) (regroup (items_front most rest)))
  where
    regroup : (o : Option (List Item × List ℕ)) → appended set (option_map (λ p. ((n, Some d) ∷ p.0, p.1)) o) ≡ appended (set ++ (n, Some d) ∷ []) o
    regroup None = refl
    regroup (Some (is, left)) = ap (λ v. Some (v, left)) (sym (append_assoc set ((n, Some d) ∷ []) is))

-- the last number of a set
pub items-last : (set : List Item) (i : Item) (most : ℕ) (cs rest : List ℕ) → item_front cs ≡ Some (i, rest) → i.1 ≡ None → length cs ≤ most
    → appended set (items_front most cs) ≡ Some (set ++ i ∷ [], rest)
items-last set (n, j) zero cs rest e s l = let short = item-shorter cs rest (n, j) e in absurd (omega arith)
items-last set (n, j) (suc most) cs rest e s l = rw (e, s) refl

-- no number where there has to be one
pub items-none : (most : ℕ) (cs : List ℕ) → item_front cs ≡ None → items_front most cs ≡ None
items-none zero cs e = refl
items-none (suc most) cs e = rw e refl

pub appended-none : (set : List Item) (o : Option (List Item × List ℕ)) → None ≡ appended set o → o ≡ None
appended-none set None e = refl
appended-none set (Some p) e = cc

pub none_from_test : (o : Option NumericDelimiter) → is_some o ≡ false → o ≡ None
none_from_test None e = refl
none_from_test (Some d) e = cc

pub some_from_test : (o : Option NumericDelimiter) → is_some o ≡ true → (d : NumericDelimiter) × (o ≡ Some d)
some_from_test None e = cc
some_from_test (Some d) e = (d, refl)
