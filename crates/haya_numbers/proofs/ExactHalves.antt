-- The number of a half of an escaped range, and the characters of its exact text.
use Rattle.std.proofs.Common.{◌≡◌, ℕ, suc, ◌<◌, ◌≤◌, ◌^◌, Bool, true, false, ◌&&◌, ◌||◌, not, nat_eq, cond, ◌==◌, List, [], ◌∷◌, ◌++◌, length, refl, ap, sym, ◌∙◌, subst, ℤ, pos, negsuc, Option, Some, None, Ok, Err, arith, append_assoc}
use Rattle.std.proofs.lemmas.Bool.Decides.{nat_tests}
use Rattle.std.proofs.lemmas.List.{append-nil}
use Rattle.std.specs.Char.{is_whitespace}
use Rattle.std.specs.Fmt.{decimal, signed_decimal}
use Rattle.std.specs.List.{list_all}
use Rattle.std.specs.Prelude.{if◌then◌else◌, ok_or}
use Rattle.std.specs.Result.{result_ok}
use Rattle.std.specs.Str.{drop_trailing_whitespace, skip_leading_whitespace}
use lib.Utf8.{scalar}
use Rattle.haya_text.proofs.Tells.{and-both, both-and}
use Rattle.haya_numbers.specs.declared.numeric.NumericDelimiter.{NumericDelimiter}
use Rattle.haya_numbers.specs.declared.numeric.NumericDelimiter.TheVariants.{Hyphen}
use Rattle.haya_numbers.specs.declared.numeric.NumericError.TheVariants.{NotADelimiter}
use Rattle.haya_text.specs.Characters.{is_numeric, begins_with}
use Rattle.haya_numbers.specs.Characters.{is_delimiter}
use Rattle.haya_numbers.specs.Numeric.{Item, ValueView, SetOf, NumericView}
use Rattle.haya_numbers.specs.NumericBack.{is_readable}
use Rattle.haya_numbers.specs.NumericGrammar.{IsRun, IsNumber, Plain, Negated, IsItem, AreItems, Last, More, KeepsZeros, AllZeros, NoZeros, ButLast, IsValue, Alone, Set, HasParts}
use Rattle.haya_numbers.specs.NumericReading.{delimiter_read, first_delimiter, is_affix, read_from}
use Rattle.haya_numbers.specs.NumericRoundTrip.{exact_text}
use Rattle.haya_numbers.specs.PagesReading.{half_read, trim_chars}
use Rattle.haya_numbers.specs.Pieces.{is_separator}
use Rattle.haya_numbers.proofs.Backs.{AreAffixes, behind, behind_value, signed_nonempty, skip-front}
use Rattle.haya_numbers.proofs.Digits.{pos-numeric}
use Rattle.haya_numbers.proofs.CutLemmas.{HasNoEscape}
use Rattle.haya_numbers.proofs.ExactNumbers.{IsText, end_chars, exact_chars, first_gap, is_exact, joined_starts, value_text}
use Rattle.haya_numbers.proofs.Grammars.{is_zero, is-read, is-run, is-skip}
use Rattle.haya_numbers.proofs.KeptNumbers.{all-append, all-scalars, fits, front_starts, number-all, part_affixes, parts-all, parts_are, parts_made, readable, run-all}
use Rattle.haya_numbers.proofs.KeptPages.{apart, digits-plain, inside_half, joined_some, kept-start, last-all, last-append, last_passes, not_true, numeral, solid, solid_suffix, trim-all, trim-kept}
use Rattle.haya_numbers.proofs.Magnitudes.{hyphen_is_not}

-- ---- no escaped hyphen, as a test

abbrev is_hyphen : ℕ → Bool
is_hyphen c = nat_eq c 45

abbrev other : ℕ → Bool
other c = not (nat_eq c 92)

abbrev pub no_escape : List ℕ → Bool
no_escape [] = true
no_escape (c ∷ cs) = not (nat_eq c 92 && begins_with is_hyphen cs) && no_escape cs

-- behind characters that are no backslash
escape-behind : (xs ys : List ℕ) → list_all other xs ≡ true → no_escape ys ≡ true → no_escape (xs ++ ys) ≡ true
escape-behind [] ys all h = h
escape-behind (x ∷ xs) ys all h =
    let both = and-both (other x) (list_all other xs) all in
    let no = not_true (nat_eq x 92) both.0 in
    rw (no, escape-behind xs ys both.1 h) refl

-- behind characters that are no hyphen, where none follows
escape-apart : (xs ys : List ℕ) → list_all (λ c. not (is_hyphen c)) xs ≡ true → begins_with is_hyphen ys ≡ false → no_escape ys ≡ true → no_escape (xs ++ ys) ≡ true
escape-apart [] ys all none h = h
escape-apart (x ∷ xs) ys all none h =
    let both = and-both (not (is_hyphen x)) (list_all (λ c. not (is_hyphen c)) xs) all in
    rw (next xs both.1, escape-apart xs ys both.1 none h) (by (nat_eq x 92))
  where
    next : (cs : List ℕ) → list_all (λ c. not (is_hyphen c)) cs ≡ true → begins_with is_hyphen (cs ++ ys) ≡ false
    next [] m = none
    next (c ∷ cs) m = not_true (is_hyphen c) (and-both (not (is_hyphen c)) (list_all (λ d. not (is_hyphen d)) cs) m).0

    by : (b : Bool) → (not (b && false) && true) ≡ true
    by true = refl
    by false = refl

-- what may stand before a hyphen may do so before another
escape-before : (xs ys zs : List ℕ) → no_escape (xs ++ 45 ∷ ys) ≡ true → no_escape (45 ∷ zs) ≡ true → no_escape (xs ++ 45 ∷ zs) ≡ true
escape-before [] ys zs h k = k
escape-before (x ∷ xs) ys zs h k =
    let both = and-both (not (nat_eq x 92 && begins_with is_hyphen (xs ++ 45 ∷ ys))) (no_escape (xs ++ 45 ∷ ys)) h in
    both-and (not (nat_eq x 92 && begins_with is_hyphen (xs ++ 45 ∷ zs))) (no_escape (xs ++ 45 ∷ zs)) (ap (λ b. not (nat_eq x 92 && b)) (same xs) ∙ both.0) (escape-before xs ys zs both.1 k)
  where
    same : (cs : List ℕ) → begins_with is_hyphen (cs ++ 45 ∷ zs) ≡ begins_with is_hyphen (cs ++ 45 ∷ ys)
    same [] = refl
    same (c ∷ cs) = refl

pub from_none : (cs : List ℕ) → HasNoEscape cs → no_escape cs ≡ true
from_none [] none = refl
from_none (c ∷ cs) none =
    rw (not_both cs none, from_none cs (λ xs ys e. none (c ∷ xs) ys (ap (λ l. c ∷ l) e))) refl
  where
    not_both : (ds : List ℕ) → HasNoEscape (c ∷ ds) → not (nat_eq c 92 && begins_with is_hyphen ds) ≡ true
    not_both [] lacks = by (nat_eq c 92)
      where
        by : (b : Bool) → not (b && false) ≡ true
        by true = refl
        by false = refl
    not_both (d ∷ ds) lacks = by (nat_eq c 92) refl (nat_eq d 45) refl
      where
        by : (a : Bool) → nat_eq c 92 ≡ a → (b : Bool) → nat_eq d 45 ≡ b → not (a && b) ≡ true
        by false e b f = refl
        by true e false f = refl
        by true e true f =
            let x : c ≡ 92 = grind (arith, nat_tests) in
            let y : d ≡ 45 = grind (arith, nat_tests) in
            absurd (lacks [] ds (ap (λ v. v ∷ d ∷ ds) x ∙ ap (λ v. 92 ∷ v ∷ ds) y))

pub none_from : (cs : List ℕ) → no_escape cs ≡ true → HasNoEscape cs
none_from cs h xs ys e = let no = by xs in let yes : no_escape (xs ++ 92 ∷ 45 ∷ ys) ≡ true = rw e at h in absurd (let f : ⊥ = cc in f)
  where
    by : (xs : List ℕ) → no_escape (xs ++ 92 ∷ 45 ∷ ys) ≡ false
    by [] = refl
    by (x ∷ xs) = rw (by xs) (last (not (nat_eq x 92 && begins_with is_hyphen (xs ++ 92 ∷ 45 ∷ ys))))
      where
        last : (b : Bool) → (b && false) ≡ false
        last true = refl
        last false = refl

pub none_behind : (xs ys : List ℕ) → HasNoEscape (xs ++ ys) → HasNoEscape ys
none_behind xs ys none fs bs e = none (xs ++ fs) bs (ap (λ l. xs ++ l) e ∙ sym (append_assoc xs fs (92 ∷ 45 ∷ bs)))

pub none_before : (xs ys : List ℕ) → HasNoEscape (xs ++ ys) → HasNoEscape xs
none_before xs ys none fs bs e = none fs (bs ++ ys) (ap (λ l. l ++ ys) e ∙ append_assoc fs (92 ∷ 45 ∷ bs) ys)

-- ---- values without separators

data AreRanged : List Item → Type 0 where
  last : (n : ℤ) → is_readable n ≡ true → AreRanged ((n, None) ∷ [])
  next : (n : ℤ) (is : List Item) → is_readable n ≡ true → AreRanged is → AreRanged ((n, Some Hyphen) ∷ is)

first_hyphen : (cs : List ℕ) (d : NumericDelimiter) → list_all apart cs ≡ true → first_delimiter cs ≡ Some d → d ≡ Hyphen
first_hyphen [] d all h = cc
first_hyphen (c ∷ cs) d all h =
    let one = not_true (is_separator c) (and-both (apart c) (list_all apart cs) all).0 in
    let x : nat_eq c 44 ≡ false = no_comma c one in
    let y : nat_eq c 38 ≡ false = no_ampersand c one in
    by _ (rw (x, y) at h)
  where
    no_comma : (c : ℕ) → is_separator c ≡ false → nat_eq c 44 ≡ false
    no_comma c s = grind (arith, nat_tests)

    no_ampersand : (c : ℕ) → is_separator c ≡ false → nat_eq c 38 ≡ false
    no_ampersand c s = grind (arith, nat_tests)

    by : (b : Bool) → (if b then Some Hyphen else None) ≡ Some d → d ≡ Hyphen
    by true k = let same : Hyphen ≡ d = cc in sym same
    by false k = cc

named_hyphen : (cs : List ℕ) (d : NumericDelimiter) → list_all apart cs ≡ true → result_ok (delimiter_read cs) ≡ Some d → d ≡ Hyphen
named_hyphen [] d all h = cc
named_hyphen (c ∷ []) d all h = first_hyphen (c ∷ []) d all (ok (first_delimiter (c ∷ [])) h)
  where
    ok : (o : Option NumericDelimiter) → result_ok (ok_or o NotADelimiter) ≡ Some d → o ≡ Some d
    ok None k = cc
    ok (Some x) k = k
named_hyphen (c ∷ e ∷ cs) d all h = by (nat_eq c 45) h
  where
    by : (b : Bool) → result_ok (if b then Ok Hyphen else Err NotADelimiter) ≡ Some d → d ≡ Hyphen
    by true k = let same : Hyphen ≡ d = cc in sym same
    by false k = cc

ranged_items : {text rest : List ℕ} {items : List Item} → AreItems text items rest → list_all apart text ≡ true → AreRanged items
ranged_items (Last delimiters n i d e) all = rw e (last n (readable i.number))
ranged_items (More delimiters behind n d more i f m e) all =
    let past = number-all apart i.number (run-all apart i.before all).1 in
    let run = run-all apart i.run (run-all apart i.between past).1 in
    let same = named_hyphen delimiters d run.0 f in
    rw (e, same) (next n more (readable i.number) (ranged_items m run.1))

-- ---- the characters of such a value

-- what may end a half
record IsTail (text : List ℕ) : Type 0 where
  apart_text : list_all apart text ≡ true
  escape : no_escape text ≡ true
  back : last_passes solid text ≡ true

last-join : (p : ℕ → Bool) (xs ys : List ℕ) → last_passes p xs ≡ true → last_passes p ys ≡ true → last_passes p (xs ++ ys) ≡ true
last-join p xs [] h k = ap (last_passes p) (append-nil xs) ∙ h
last-join p xs (y ∷ ys) h k = last-append p xs y ys ∙ k

last-behind : (p : ℕ → Bool) (xs ys : List ℕ) → 0 < length ys → last_passes p ys ≡ true → last_passes p (xs ++ ys) ≡ true
last-behind p xs [] some k = absurd (omega arith)
last-behind p xs (y ∷ ys) some k = last-append p xs y ys ∙ k

-- a printed number passes where digits and a hyphen do
signed-all : (p : ℕ → Bool) → ((c : ℕ) → 48 ≤ c → c ≤ 57 → p c ≡ true) → p 45 ≡ true → (n : ℤ) → is_readable n ≡ true → list_all p (signed_decimal n) ≡ true
signed-all p digit sign (pos m) h = let small : m < 2 ^ 31 = grind (arith, nat_tests) in digits-plain p digit (decimal m) (numeral m small)
signed-all p digit sign (negsuc m) h = let small : suc m < 2 ^ 31 = grind (arith, nat_tests) in both-and (p 45) (list_all p (decimal (suc m))) sign (digits-plain p digit (decimal (suc m)) (numeral (suc m) small))

digit_apart : (c : ℕ) → 48 ≤ c → c ≤ 57 → apart c ≡ true
digit_apart c low high = let a : is_separator c ≡ false = grind (arith, nat_tests) in rw a refl

digit_solid : (c : ℕ) → 48 ≤ c → c ≤ 57 → solid c ≡ true
digit_solid c low high = let a : is_whitespace c ≡ false = grind (arith, nat_tests) in rw a refl

digit_other : (c : ℕ) → 48 ≤ c → c ≤ 57 → other c ≡ true
digit_other c low high = let a : nat_eq c 92 ≡ false = grind (arith, nat_tests) in rw a refl

number_tail : (n : ℤ) (t : List ℕ) → is_readable n ≡ true → IsTail t → IsTail (signed_decimal n ++ t)
number_tail n t h end = record {
  apart_text = all-append apart (signed_decimal n) t (signed-all apart digit_apart refl n h) end.apart_text;
  escape = escape-behind (signed_decimal n) t (signed-all other digit_other refl n h) end.escape;
  back = last-join solid (signed_decimal n) t (last-all solid (signed_decimal n) (signed-all solid digit_solid refl n h)) end.back;
}

-- a hyphen and a blank before something that isn't empty
spaced_tail : (t : List ℕ) → 0 < length t → IsTail t → IsTail (45 ∷ 32 ∷ t)
spaced_tail t some end = record { apart_text = end.apart_text; escape = end.escape; back = last-behind solid (45 ∷ 32 ∷ []) t some end.back }

items_some : {items : List Item} (t : List ℕ) → AreRanged items → 0 < length (exact_chars items t)
items_some t (last n h) = longer (signed_decimal n) t (signed_nonempty n h)
  where
    longer : (xs ys : List ℕ) → 0 < length xs → 0 < length (xs ++ ys)
    longer [] ys some = absurd (omega arith)
    longer (x ∷ xs) ys some = omega arith
items_some t (next n is h more) = joined_some (signed_decimal n) (45 ∷ 32 ∷ exact_chars is t) (omega arith)

items_tail : {items : List Item} (t : List ℕ) → AreRanged items → IsTail t → IsTail (exact_chars items t)
items_tail t (last n h) end = number_tail n t h end
items_tail t (next n is h more) end = number_tail n (45 ∷ 32 ∷ exact_chars is t) h (spaced_tail (exact_chars is t) (items_some t more) (items_tail t more end))

end_tail : (suffix : List ℕ) → IsTail suffix → IsTail (end_chars suffix ++ suffix)
end_tail [] end = end
end_tail (c ∷ cs) end = by (is_delimiter c)
  where
    by : (b : Bool) → IsTail ((if b then 8211 ∷ 8211 ∷ 32 ∷ [] else []) ++ c ∷ cs)
    by true = record { apart_text = end.apart_text; escape = end.escape; back = end.back }
    by false = end

white_other : (cs : List ℕ) → list_all is_whitespace cs ≡ true → list_all other cs ≡ true
white_other [] m = refl
white_other (c ∷ cs) m =
    let both = and-both (is_whitespace c) (list_all is_whitespace cs) m in
    let no : nat_eq c 92 ≡ false = by (nat_eq c 92) refl both.0 in
    rw (no, white_other cs both.1) refl
  where
    by : (b : Bool) → nat_eq c 92 ≡ b → is_whitespace c ≡ true → b ≡ false
    by false e h = refl
    by true e h = let same : c ≡ 92 = grind (arith, nat_tests) in let none : false ≡ true = rw same at h in cc

-- ---- a half

pub record IsHalf (text : List ℕ) : Type 0 where
  pub apart_text : list_all apart text ≡ true
  pub escape : no_escape text ≡ true
  pub front : begins_with is_whitespace text ≡ false
  pub back : last_passes solid text ≡ true
  pub some : 0 < length text

-- a hyphen stands behind the prefix of a number below 0
sign_behind : {cs : List ℕ} {n : NumericView} (h : HasParts cs n []) (k : ℕ) → h.n ≡ negsuc k → (behind : List ℕ) × (h.prefixed.at_name ≡ h.prefixed.name ++ 45 ∷ behind) × (h.prefixed.kept ≡ [])
sign_behind h k is = by h.number h.prefixed.keeps is
  where
    no_sign : (l : List ℕ) → begins_with is_numeric (45 ∷ l) ≡ true → ⊥
    no_sign l s = let none : is_numeric 45 ≡ false = hyphen_is_not in cc

    no_zero : {xs ys : List ℕ} → 48 ∷ xs ≡ 45 ∷ ys → ⊥
    no_zero e = let f : true ≡ false = ap (λ l. begins_with (λ c. nat_eq c 48) l) e in cc

    keeps : {zs past kept : List ℕ} (rest : List ℕ) → KeepsZeros zs past kept (45 ∷ rest) → (zs ++ past ≡ 45 ∷ rest) × (kept ≡ [])
    keeps rest (AllZeros s e b) = absurd (no_sign rest (subst (λ (l : List ℕ). begins_with is_numeric l ≡ true) (sym b) s))
    keeps rest (NoZeros s z e b) = (rw (z, b) refl, e)
    keeps rest (ButLast s z b) = absurd (no_zero (sym b))

    by : {at past : List ℕ} {z : ℤ} → IsNumber at z past → KeepsZeros h.prefixed.zeros h.prefixed.past_zeros h.prefixed.kept at → z ≡ negsuc k
        → (rest : List ℕ) × (h.prefixed.at_name ≡ h.prefixed.name ++ 45 ∷ rest) × (h.prefixed.kept ≡ [])
    by (Plain digits m r s e) kept same = let f = sym e ∙ same in cc
    by (Negated rest digits m t r s e) kept same =
        let p = h.prefixed in
        let q = keeps rest (subst (KeepsZeros p.zeros p.past_zeros p.kept) t kept) in
        (rest, p.name_run.joined ∙ ap (λ l. p.name ++ l) (p.zeros_run.joined ∙ q.0), q.1)

affix_plain : (cs : List ℕ) → list_all is_affix cs ≡ true → list_all (λ c. not (is_hyphen c)) cs ≡ true
affix_plain [] m = refl
affix_plain (c ∷ cs) m =
    let both = and-both (is_affix c) (list_all is_affix cs) m in
    both-and (not (is_hyphen c)) (list_all (λ d. not (is_hyphen d)) cs) (by (is_numeric c) (is_hyphen c) both.0) (affix_plain cs both.1)
  where
    by : (a b : Bool) → not (a || b) ≡ true → not b ≡ true
    by false b h = h
    by true b h = cc

zeros_plain : (zs : List ℕ) → list_all is_zero zs ≡ true → (list_all (λ c. not (is_hyphen c)) zs ≡ true) × (list_all apart zs ≡ true)
zeros_plain [] m = (refl, refl)
zeros_plain (z ∷ zs) m =
    let both = and-both (nat_eq z 48) (list_all is_zero zs) m in
    let same : z ≡ 48 = grind (arith, nat_tests) in
    let more = zeros_plain zs both.1 in
    rw same more

digits_first : (m : ℕ) (t : List ℕ) → m < 2 ^ 31 → begins_with is_hyphen (decimal m ++ t) ≡ false
digits_first m t small = by (decimal m ++ t) (pos-numeric m t small)
  where
    by : (cs : List ℕ) → begins_with is_numeric cs ≡ true → begins_with is_hyphen cs ≡ false
    by [] h = refl
    by (c ∷ cs) h = no (is_hyphen c) refl
      where
        no : (b : Bool) → is_hyphen c ≡ b → b ≡ false
        no false e = refl
        no true e =
            let same : c ≡ 45 = grind (arith, nat_tests) in
            let none : is_numeric 45 ≡ false = hyphen_is_not in
            let yes : is_numeric 45 ≡ true = rw same at h in
            cc

-- ---- what stands behind has no escaped hyphen

none-run : {q : ℕ → Bool} {text front rest : List ℕ} → IsRun q text front rest → HasNoEscape text → HasNoEscape rest
none-run {q} {text} {front} {rest} r none = none_behind front rest (subst HasNoEscape r.joined none)

none-number : {text rest : List ℕ} {n : ℤ} → IsNumber text n rest → HasNoEscape text → HasNoEscape rest
none-number (Plain digits m r s e) none = none-run r none
none-number (Negated behind digits m t r s e) none = none-run r (none_behind (45 ∷ []) behind (subst HasNoEscape t none))

none-item : {text delimiters rest : List ℕ} {n : ℤ} → IsItem text n delimiters rest → HasNoEscape text → HasNoEscape rest
none-item i none = none-run i.run (none-run i.between (none-number i.number (none-run i.before none)))

none-items : {text rest : List ℕ} {items : List Item} → AreItems text items rest → HasNoEscape text → HasNoEscape rest
none-items (Last delimiters n i d e) none = none-item i none
none-items (More delimiters behind n d more i f m e) none = none-items m (none-item i none)

none-value : {n : ℤ} {text rest : List ℕ} {v : ValueView} → IsValue n text v rest → HasNoEscape text → HasNoEscape rest
none-value (Alone f e same) none = subst HasNoEscape (sym same) none
none-value (Set delimiters behind d items f r m e) none = none-items m (none-run r none)

none-keeps : {zs past kept at : List ℕ} → KeepsZeros zs past kept at → HasNoEscape (zs ++ past) → HasNoEscape at
none-keeps {zs} {past} (AllZeros s e b) none = subst HasNoEscape (sym b) (none_behind zs past none)
none-keeps {zs} {past} (NoZeros s z e b) none = subst HasNoEscape (sym b) (none_behind zs past none)
none-keeps {zs} {past} {kept} (ButLast s z b) none =
    let joined : zs ++ past ≡ kept ++ 48 ∷ past = ap (λ l. l ++ past) z ∙ append_assoc kept (48 ∷ []) past in
    subst HasNoEscape (sym b) (none_behind kept (48 ∷ past) (subst HasNoEscape joined none))

module _ {cs : List ℕ} {n : NumericView} (h : HasParts cs n []) (all : list_all apart cs ≡ true) (none : HasNoEscape cs) (a : AreAffixes h.prefixed.name h.prefixed.kept h.white h.suffix) where
  none_name : HasNoEscape h.prefixed.at_name
  none_name = none-run h.prefixed.before none

  none_number : HasNoEscape h.at_number
  none_number =
      let p = h.prefixed in
      none-keeps p.keeps (subst HasNoEscape p.zeros_run.joined (none-run p.name_run none_name))

  suffix_tail : IsTail h.suffix
  suffix_tail =
      let value = none-run h.between (none-number h.number none_number) in
      let last = none-run h.before_suffix (none-value h.value value) in
      record {
        apart_text = (parts-all apart h all).suffix;
        escape = from_none h.suffix (none_before h.suffix [] (subst HasNoEscape h.suffix_run.joined last));
        back = last-all solid h.suffix (solid_suffix h.suffix a.members);
      }

  white_tail : IsTail (behind_value h.white h.suffix)
  white_tail = by h.suffix suffix_tail
    where
      by : (t : List ℕ) → IsTail t → IsTail (behind_value h.white t)
      by [] end = end
      by (x ∷ t) end = record {
        apart_text = all-append apart h.white (x ∷ t) (parts-all apart h all).white end.apart_text;
        escape = escape-behind h.white (x ∷ t) (white_other h.white a.space) end.escape;
        back = last-behind solid h.white (x ∷ t) (omega arith) end.back;
      }

  gap_tail : (t : List ℕ) → 0 < length t → IsTail t → IsTail (first_gap h.prefixed.name h.prefixed.kept h.white h.suffix a ++ t)
  gap_tail t some end =
      let gap : List ℕ = first_gap h.prefixed.name h.prefixed.kept h.white h.suffix a in
      let r = is-run is_whitespace (behind_value h.white h.suffix) in
      record {
        apart_text = all-append apart gap t (run-all apart r white_tail.apart_text).0 end.apart_text;
        escape = escape-behind gap t (white_other gap r.members) end.escape;
        back = last-behind solid gap t some end.back;
      }

  -- the number with what stands behind it
  number_escape : (z : ℤ) → h.n ≡ z → is_readable z ≡ true → (t : List ℕ) → IsTail t → no_escape (h.prefixed.name ++ (h.prefixed.kept ++ (signed_decimal z ++ t))) ≡ true
  number_escape (pos m) is small t end =
      let p = h.prefixed in
      let x : List ℕ = decimal m ++ t in
      let less : m < 2 ^ 31 = grind (arith, nat_tests) in
      let none = digits_first m t less in
      let zeros = zeros_plain p.kept a.zeros_all in
      let first = escape-apart p.kept x zeros.0 none (number_tail (pos m) t small end).escape in
      escape-apart p.name (p.kept ++ x) (affix_plain p.name a.affixes) (behind_zeros x p.kept zeros.0 none) first
    where
      behind_zeros : (x zs : List ℕ) → list_all (λ c. not (is_hyphen c)) zs ≡ true → begins_with is_hyphen x ≡ false → begins_with is_hyphen (zs ++ x) ≡ false
      behind_zeros x [] m none = none
      behind_zeros x (z ∷ zs) m none = not_true (is_hyphen z) (and-both (not (is_hyphen z)) (list_all (λ c. not (is_hyphen c)) zs) m).0
  number_escape (negsuc k) is small t end =
      let p = h.prefixed in
      let s = sign_behind h k is in
      let before : no_escape (p.name ++ 45 ∷ s.0) ≡ true = from_none (p.name ++ 45 ∷ s.0) (subst HasNoEscape s.1 none_name) in
      rw s.2 (escape-before p.name s.0 (decimal (suc k) ++ t) before (number_tail (negsuc k) t small end).escape)

  number_half : (t : List ℕ) → begins_with is_numeric t ≡ false → IsTail t → IsHalf (h.prefixed.name ++ (h.prefixed.kept ++ (signed_decimal h.n ++ t)))
  number_half t apart_tail end =
      let p = h.prefixed in
      let small = readable h.number in
      let fit = fits h.number p.keeps in
      let x : List ℕ = signed_decimal h.n ++ t in
      let tail = number_tail h.n t small end in
      let some : 0 < length x = longer (signed_decimal h.n) (signed_nonempty h.n small) in
      let zeros_some = joined_some p.kept x some in
      record {
        apart_text = all-append apart p.name (p.kept ++ x) (parts-all apart h all).name (all-append apart p.kept x (zeros_plain p.kept a.zeros_all).1 tail.apart_text);
        escape = number_escape h.n refl small t end;
        front = kept-start (p.name ++ (p.kept ++ x)) (skip-front p.name p.kept h.n t a.affixes a.zeros_all a.front fit small apart_tail p.name a.front);
        back = last-behind solid p.name (p.kept ++ x) zeros_some (last-behind solid p.kept x some tail.back);
        some = joined_some p.name (p.kept ++ x) zeros_some;
      }
    where
      longer : (xs : List ℕ) → 0 < length xs → 0 < length (xs ++ t)
      longer [] h = absurd (omega arith)
      longer (y ∷ ys) h = omega arith

  abbrev its_text : ValueView → List ℕ
  its_text v = value_text h.prefixed.name h.prefixed.kept h.white h.suffix a v

  value_half : {at rest : List ℕ} {v : ValueView} → IsValue h.n at v rest → list_all apart at ≡ true → IsHalf (its_text v)
  value_half (Alone f e same) pass =
      let b = behind h.white h.suffix a.space a.apart a.members h.suffix refl in
      subst (λ v. IsHalf (its_text v)) (sym e) (number_half (behind_value h.white h.suffix) b.0 white_tail)
  value_half {at} (Set delimiters behind_first d items f r m e) pass =
      let hyphen = first_hyphen at d pass f in
      let ranged = ranged_items m (run-all apart r pass).1 in
      let b = behind h.white h.suffix a.space a.apart a.members h.suffix refl in
      let gap : List ℕ = first_gap h.prefixed.name h.prefixed.kept h.white h.suffix a in
      let t : List ℕ = end_chars h.suffix ++ h.suffix in
      let inner = spaced_tail (exact_chars items t) (items_some t ranged) (items_tail t ranged (end_tail h.suffix suffix_tail)) in
      let front = front_starts is_numeric (behind_value h.white h.suffix) gap _ (is-run is_whitespace (behind_value h.white h.suffix)).joined b.0 in
      subst (λ v. IsHalf (its_text v)) (sym (e ∙ ap (λ d. SetOf ((h.n, Some d) ∷ items)) hyphen))
      (number_half (gap ++ 45 ∷ 32 ∷ exact_chars items t) (joined_starts is_numeric gap (45 ∷ 32 ∷ exact_chars items t) front hyphen_is_not) (gap_tail (45 ∷ 32 ∷ exact_chars items t) (omega arith) inner))

-- ---- a half that was read

pub record HasExactHalf (n : NumericView) : Type 0 where
  pub text : List ℕ
  pub is : IsText (exact_text n) text
  pub read : half_read text ≡ Ok n
  pub half : IsHalf text

left_passes : (p q : ℕ → Bool) (cs : List ℕ) → list_all (λ c. p c && q c) cs ≡ true → (list_all p cs ≡ true) × (list_all q cs ≡ true)
left_passes p q [] h = (refl, refl)
left_passes p q (c ∷ cs) h =
    let both = and-both (p c && q c) (list_all (λ c. p c && q c) cs) h in
    let one = and-both (p c) (q c) both.0 in
    let more = left_passes p q cs both.1 in
    (both-and (p c) (list_all p cs) one.0 more.0, both-and (q c) (list_all q cs) one.1 more.1)

trailing : (cs : List ℕ) → (more : List ℕ) × (cs ≡ drop_trailing_whitespace cs ++ more)
trailing [] = ([], refl)
trailing (c ∷ cs) = let rest = trailing cs in by (is_whitespace c && length (drop_trailing_whitespace cs) == 0) rest.0 rest.1
  where
    by : (b : Bool) (more : List ℕ) → cs ≡ drop_trailing_whitespace cs ++ more → (m : List ℕ) × (c ∷ cs ≡ cond b [] (c ∷ drop_trailing_whitespace cs) ++ m)
    by true more e = (c ∷ cs, refl)
    by false more e = (more, ap (λ l. c ∷ l) e)

none-trim : (cs : List ℕ) → HasNoEscape cs → HasNoEscape (trim_chars cs)
none-trim cs none =
    let t = trailing (skip_leading_whitespace cs) in
    none_before (trim_chars cs) t.0 (subst HasNoEscape t.1 (none-run (is-skip cs) none))

pub exact_half : (x : List ℕ) (n : NumericView) → list_all (λ c. apart c && scalar c) x ≡ true → HasNoEscape x → half_read x ≡ Ok n → HasExactHalf n
exact_half x n all none read =
    let cs : List ℕ = trim_chars x in
    let pass = left_passes apart scalar cs (trim-all (λ c. apart c && scalar c) x all) in
    let scalars = all-scalars cs ∙ pass.1 in
    let h = (is-read cs).ok n (inside_half (read_from (skip_leading_whitespace cs)) n read) in
    let a = part_affixes cs n scalars h in
    let name : List ℕ = h.prefixed.name in
    let zeros : List ℕ = h.prefixed.kept in
    let e = is_exact name zeros h.white h.suffix a n.value (parts_made cs n h) in
    let half = value_half h pass.0 (none-trim x none) a h.value (parts-all apart h pass.0).at_value in
    let same = parts_are cs n h in
    let text : List ℕ = value_text name zeros h.white h.suffix a n.value in
    record {
      text = text;
      is = subst (λ m. IsText (exact_text m) text) (sym same) e.is;
      read = rw (trim-kept text half.front half.back, e.read) (ap Ok (sym same));
      half = half;
    }
