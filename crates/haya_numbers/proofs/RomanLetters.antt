-- Roman letters are those of each place, and read back, for each number that they write.
use Rattle.std.proofs.Common.{◌≡◌, ℕ, zero, suc, ◌+◌, ◌<◌, ◌≤◌, Bool, true, false, ◌&&◌, nat_eq, ltb, ltb-true, ltb-false, refl, arith}
use Rattle.std.specs.List.{list_all, range_with_len}
use Rattle.std.specs.Str.{bytes_eq}
use Rattle.std.proofs.lemmas.Bool.Decides.{nat_tests}
use Rattle.std.proofs.lemmas.Slice.Eq.{bytes_eq-Decides}
use Rattle.haya_text.proofs.Tells.{and-both}
use Rattle.haya_numbers.specs.NumericForms.{roman_text}
use Rattle.haya_numbers.specs.Romans.{letters_by_place, letters_value}

-- both hold of a number
abbrev is_written : ℕ → Bool
is_written n = bytes_eq (roman_text n) (letters_by_place n) && nat_eq (letters_value (roman_text n)) n

all_written : list_all is_written (range_with_len 0 4000) ≡ true
all_written = refl

in_range : (p : ℕ → Bool) (from len n : ℕ) → list_all p (range_with_len from len) ≡ true → from ≤ n → n < from + len → p n ≡ true
in_range p from zero n all low high = absurd (omega arith)
in_range p from (suc len) n all low high =
    let both = and-both (p from) (list_all p (range_with_len (from + 1) len)) all in
    (elim (ltb from n) as (λ b. ltb from n ≡ b → p n ≡ true) [
      | true ↦ λ e. let more = ltb-true from n e in in_range p (from + 1) len n both.1 (omega arith) (omega arith)
      | false ↦ λ e. let less = ltb-false from n e in let same : from ≡ n = omega arith in rw same at both.0
    ]) refl

written : (n : ℕ) → n < 4000 → is_written n ≡ true
written n small = in_range is_written 0 4000 n all_written (omega arith) (omega arith)

pub roman-places : (n : ℕ) → n < 4000 → roman_text n ≡ letters_by_place n
roman-places n small = (bytes_eq-Decides (roman_text n) (letters_by_place n)).0 (and-both (bytes_eq (roman_text n) (letters_by_place n)) (nat_eq (letters_value (roman_text n)) n) (written n small)).0

pub roman-value : (n : ℕ) → n < 4000 → letters_value (roman_text n) ≡ n
roman-value n small = let same = (and-both (bytes_eq (roman_text n) (letters_by_place n)) (nat_eq (letters_value (roman_text n)) n) (written n small)).1 in grind (arith, nat_tests)
