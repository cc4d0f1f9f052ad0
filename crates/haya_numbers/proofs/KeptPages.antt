-- The parts of pages that were read from a text, and are read again from their print.
use Rattle.std.proofs.Common.{◌≡◌, ◌≢◌, ℕ, ◌<◌, ◌≤◌, ◌^◌, Bool, true, false, ◌&&◌, ◌||◌, not, nat_eq, nat_lt, cond, ◌==◌, List, [], ◌∷◌, ◌++◌, length, refl, ap, sym, ◌∙◌, subst, ℤ, pos, Option, Some, None, Result, Ok, Err, arith, append_assoc, append-nil}
use Rattle.std.proofs.lemmas.Bool.Decides.{nat_tests}
use Rattle.std.proofs.lemmas.Fmt.{decimal_is_IsNumeral}
use Rattle.std.proofs.lemmas.Str.{chars-encodes}
use Rattle.std.proofs.lemmas.Str.Parse.{digit_from_value}
use Rattle.std.specs.Char.{is_whitespace}
use Rattle.std.specs.Fmt.{decimal}
use Rattle.std.specs.Int.{IsInRange}
use Rattle.std.specs.List.{AllByRecursion, list_all}
use Rattle.std.specs.Result.{result_map_both}
use Rattle.std.specs.Str.{IsUtf8, chars, skip_leading_whitespace, drop_trailing_whitespace}
use Rattle.std.specs.Str.Parse.{AllDigits}
use lib.Utf8.{scalar, scalars}
use Rattle.haya_text.proofs.Tells.{and-both, both-and}
use Rattle.haya_text.specs.Characters.{begins_with}
use Rattle.haya_numbers.specs.Cuts.{is_dash}
use Rattle.haya_numbers.specs.Numeric.{NumericView, ValueView, Single, single_number}
use Rattle.haya_numbers.specs.NumericGrammar.{IsNumber, Plain, Negated, IsValue, Alone, Set, HasParts}
use Rattle.haya_numbers.specs.NumericPrinted.{shown_numeric, text_or_nothing}
use Rattle.haya_numbers.specs.NumericReading.{first_delimiter, is_suffix, suffix_with, read_from}
use Rattle.haya_numbers.specs.NumericRoundTrip.{exact_text}
use Rattle.haya_numbers.specs.Pages.{fault_of}
use Rattle.haya_numbers.specs.PagesBack.{ends_in, is_from_zero, suffix_ends_in}
use Rattle.haya_numbers.specs.PagesReading.{trim_chars, half_read}
use Rattle.haya_numbers.specs.Pieces.{is_separator}
use Rattle.haya_numbers.proofs.Backs.{AreAffixes, behind_value, single_text, single-read, single-shown, single-skip, single-utf8, suffix_apart, with_affixes, zeros_fit}
use Rattle.haya_numbers.proofs.Grammars.{is_zero, is-read}
use Rattle.haya_numbers.proofs.Items.{skip-le}
use Rattle.haya_numbers.proofs.KeptNumbers.{PartsPass, all-append, all-scalars, part_affixes, parts-all, parts_are}

-- ---- the last character, and white space at the ends

abbrev pub last_passes : (ℕ → Bool) → List ℕ → Bool
last_passes p [] = true
last_passes p (c ∷ []) = p c
last_passes p (c ∷ d ∷ cs) = last_passes p (d ∷ cs)

pub last-all : (p : ℕ → Bool) (cs : List ℕ) → list_all p cs ≡ true → last_passes p cs ≡ true
last-all p [] h = refl
last-all p (c ∷ []) h = (and-both (p c) true h).0
last-all p (c ∷ d ∷ cs) h = last-all p (d ∷ cs) (and-both (p c) (list_all p (d ∷ cs)) h).1

pub last-append : (p : ℕ → Bool) (xs : List ℕ) (y : ℕ) (ys : List ℕ) → last_passes p (xs ++ y ∷ ys) ≡ last_passes p (y ∷ ys)
last-append p [] y ys = refl
last-append p (x ∷ []) y ys = refl
last-append p (x ∷ w ∷ xs) y ys = last-append p (w ∷ xs) y ys

abbrev pub solid : ℕ → Bool
solid c = not (is_whitespace c)

pub not_true : (b : Bool) → not b ≡ true → b ≡ false
not_true true h = cc
not_true false h = refl

pub not_false : (b : Bool) → b ≡ false → not b ≡ true
not_false b h = rw h refl

end-kept : (cs : List ℕ) → last_passes solid cs ≡ true → drop_trailing_whitespace cs ≡ cs
end-kept [] h = refl
end-kept (c ∷ []) h = rw (not_true (is_whitespace c) h) refl
end-kept (c ∷ d ∷ cs) h =
    let some : (length (d ∷ cs) == 0) ≡ false = grind (arith, nat_tests) in
    rw (end-kept (d ∷ cs) h, some) (by (is_whitespace c))
  where
    by : (b : Bool) → cond (b && false) [] (c ∷ d ∷ cs) ≡ c ∷ d ∷ cs
    by true = refl
    by false = refl

start-kept : (cs : List ℕ) → begins_with is_whitespace cs ≡ false → skip_leading_whitespace cs ≡ cs
start-kept [] h = refl
start-kept (c ∷ cs) h = rw h refl

pub kept-start : (cs : List ℕ) → skip_leading_whitespace cs ≡ cs → begins_with is_whitespace cs ≡ false
kept-start [] h = refl
kept-start (c ∷ cs) h = by (is_whitespace c) h
  where
    by : (b : Bool) → cond b (skip_leading_whitespace cs) (c ∷ cs) ≡ c ∷ cs → b ≡ false
    by false k = refl
    by true k = absurd (omega (arith, skip-le cs, ap length k))

pub trim-kept : (cs : List ℕ) → begins_with is_whitespace cs ≡ false → last_passes solid cs ≡ true → trim_chars cs ≡ cs
trim-kept cs s l = ap drop_trailing_whitespace (start-kept cs s) ∙ end-kept cs l

module _ (p : ℕ → Bool) where
  skip-all : (cs : List ℕ) → list_all p cs ≡ true → list_all p (skip_leading_whitespace cs) ≡ true
  skip-all [] h = refl
  skip-all (c ∷ cs) h = by (is_whitespace c) (skip-all cs (and-both (p c) (list_all p cs) h).1)
    where
      by : (b : Bool) → list_all p (skip_leading_whitespace cs) ≡ true → list_all p (cond b (skip_leading_whitespace cs) (c ∷ cs)) ≡ true
      by true more = more
      by false more = h

  drop-all : (cs : List ℕ) → list_all p cs ≡ true → list_all p (drop_trailing_whitespace cs) ≡ true
  drop-all [] h = refl
  drop-all (c ∷ cs) h = let both = and-both (p c) (list_all p cs) h in by (is_whitespace c && length (drop_trailing_whitespace cs) == 0) both.0 (drop-all cs both.1)
    where
      by : (b : Bool) → p c ≡ true → list_all p (drop_trailing_whitespace cs) ≡ true → list_all p (cond b [] (c ∷ drop_trailing_whitespace cs)) ≡ true
      by true one more = refl
      by false one more = both-and (p c) (list_all p (drop_trailing_whitespace cs)) one more

  pub trim-all : (cs : List ℕ) → list_all p cs ≡ true → list_all p (trim_chars cs) ≡ true
  trim-all cs h = drop-all (skip_leading_whitespace cs) (skip-all cs h)

-- ---- plain characters: neither separators nor dashes

abbrev pub apart : ℕ → Bool
apart c = not (is_separator c)

abbrev pub plain : ℕ → Bool
plain c = not (is_separator c || is_dash c)

-- plain characters of a text
abbrev pub good : ℕ → Bool
good c = plain c && scalar c

pub plain-apart : (c : ℕ) → plain c ≡ true → (is_separator c ≡ false) × (is_dash c ≡ false)
plain-apart c h = by (is_separator c) (is_dash c) h
  where
    by : (a b : Bool) → not (a || b) ≡ true → (a ≡ false) × (b ≡ false)
    by false false k = (refl, refl)
    by false true k = cc
    by true b k = cc

all-first : (cs : List ℕ) → list_all good cs ≡ true → list_all plain cs ≡ true
all-first [] h = refl
all-first (c ∷ cs) h =
    let both = and-both (good c) (list_all good cs) h in
    both-and (plain c) (list_all plain cs) (and-both (plain c) (scalar c) both.0).0 (all-first cs both.1)

all-second : (cs : List ℕ) → list_all good cs ≡ true → list_all scalar cs ≡ true
all-second [] h = refl
all-second (c ∷ cs) h =
    let both = and-both (good c) (list_all good cs) h in
    both-and (scalar c) (list_all scalar cs) (and-both (plain c) (scalar c) both.0).1 (all-second cs both.1)

pub no_dashes : (cs : List ℕ) → list_all plain cs ≡ true → AllByRecursion (λ c. is_dash c ≡ false) cs
no_dashes [] h = tt
no_dashes (c ∷ cs) h = let both = and-both (plain c) (list_all plain cs) h in ((plain-apart c both.0).1, no_dashes cs both.1)

pub no_separators : (cs : List ℕ) → list_all apart cs ≡ true → AllByRecursion (λ c. is_separator c ≡ false) cs
no_separators [] h = tt
no_separators (c ∷ cs) h = let both = and-both (apart c) (list_all apart cs) h in (not_true (is_separator c) both.0, no_separators cs both.1)

pub plain_all : (cs : List ℕ) → list_all plain cs ≡ true → list_all apart cs ≡ true
plain_all [] h = refl
plain_all (c ∷ cs) h =
    let both = and-both (plain c) (list_all plain cs) h in
    both-and (apart c) (list_all apart cs) (not_false (is_separator c) (plain-apart c both.0).0) (plain_all cs both.1)

pub digits-plain : (p : ℕ → Bool) → ((c : ℕ) → 48 ≤ c → c ≤ 57 → p c ≡ true) → (ds : List ℕ) → AllDigits 10 ds → list_all p ds ≡ true
digits-plain p each [] h = refl
digits-plain p each (d ∷ ds) h =
    let r : IsInRange 48 57 d = digit_from_value d h.0 in
    both-and (p d) (list_all p ds) (each d r.0 r.1) (digits-plain p each ds h.1)

digit-plain : (c : ℕ) → 48 ≤ c → c ≤ 57 → plain c ≡ true
digit-plain c low high =
    let a : is_separator c ≡ false = grind (arith, nat_tests) in
    let b : is_dash c ≡ false = grind (arith, nat_tests) in
    rw (a, b) refl

digit-solid : (c : ℕ) → 48 ≤ c → c ≤ 57 → solid c ≡ true
digit-solid c low high = let a : is_whitespace c ≡ false = grind (arith, nat_tests) in rw a refl

digit-other : (c : ℕ) → 48 ≤ c → c ≤ 57 → not (nat_eq c 92) ≡ true
digit-other c low high = let a : nat_eq c 92 ≡ false = grind (arith, nat_tests) in rw a refl

-- ---- a number without dashes

-- a number from 0 on, without a set
single : {text : List ℕ} {n : NumericView} (h : HasParts text n []) → PartsPass plain h → (k : ℕ) × (n.value ≡ Single (pos k)) × (k < 2 ^ 31)
single h pass = by_value h.value pass.at_value (by_number h.number pass.at_number)
  where
    by_number : {at rest : List ℕ} {z : ℤ} → IsNumber at z rest → list_all plain at ≡ true → (k : ℕ) × (z ≡ pos k) × (k < 2 ^ 31)
    by_number (Plain digits m r s e) p = (m, e, omega (arith, s.value, s.small))
    by_number (Negated behind digits m t r s e) p = let no : list_all plain (45 ∷ behind) ≡ true = rw t at p in cc

    no_delimiter : (cs : List ℕ) → list_all plain cs ≡ true → (o : Option _) → first_delimiter cs ≡ o → o ≡ None
    no_delimiter [] p o e = sym e
    no_delimiter (c ∷ cs) p o e =
        let both = plain-apart c (and-both (plain c) (list_all plain cs) p).0 in
        sym e ∙ delimiter c both.0 both.1
      where
        delimiter : (c : ℕ) → is_separator c ≡ false → is_dash c ≡ false → first_delimiter (c ∷ cs) ≡ None
        delimiter c s d =
            let a : nat_eq c 44 ≡ false = grind (arith, nat_tests) in
            let b : nat_eq c 38 ≡ false = grind (arith, nat_tests) in
            rw (a, b, d) refl

    by_value : {z : ℤ} {at rest : List ℕ} {v : ValueView} → IsValue z at v rest → list_all plain at ≡ true → (k : ℕ) × (z ≡ pos k) × (k < 2 ^ 31) → (k : ℕ) × (v ≡ Single (pos k)) × (k < 2 ^ 31)
    by_value (Alone f e same) p number = (number.0, e ∙ ap Single number.1, number.2)
    by_value {at = at} (Set delimiters behind d items f r m e) p number = let none = no_delimiter at p (Some d) f in cc

-- A number that is read from plain characters, and the characters of its print.
pub record NumberText (n : NumericView) (text : List ℕ) : Type 0 where
  pub shown : chars (shown_numeric n) ≡ text
  pub utf8 : IsUtf8 (shown_numeric n)
  pub read : half_read text ≡ Ok n
  pub plain_text : list_all plain text ≡ true
  pub front : begins_with is_whitespace text ≡ false
  pub back : last_passes solid text ≡ true
  pub some : 0 < length text
  pub exact : exact_text n ≡ shown_numeric n
  pub from_zero : is_from_zero (single_number n) ≡ true
  pub escape : suffix_ends_in 92 n.suffix ≡ false → last_passes (λ c. not (nat_eq c 92)) text ≡ true

alone_from_zero : (k : ℕ) (p s : Option (List ℕ)) → is_from_zero (single_number (record { value = Single (pos k); prefix = p; suffix = s })) ≡ true
alone_from_zero k None None = refl
alone_from_zero k None (Some s) = refl
alone_from_zero k (Some p) s = refl

pub numeral : (k : ℕ) → k < 2 ^ 31 → AllDigits 10 (decimal k)
numeral k small = (decimal_is_IsNumeral k (omega arith)).0.1

pub behind-all : (p : ℕ → Bool) (white suffix : List ℕ) → list_all p white ≡ true → list_all p suffix ≡ true → list_all p (behind_value white suffix) ≡ true
behind-all p white [] w s = refl
behind-all p white (c ∷ cs) w s = all-append p white (c ∷ cs) w s

pub solid_suffix : (cs : List ℕ) → list_all is_suffix cs ≡ true → list_all solid cs ≡ true
solid_suffix [] h = refl
solid_suffix (c ∷ cs) h =
    let both = and-both (is_suffix c) (list_all is_suffix cs) h in
    both-and (solid c) (list_all solid cs) (not_false (is_whitespace c) (suffix_apart c both.0).1) (solid_suffix cs both.1)

zeros-plain : (zs : List ℕ) → list_all is_zero zs ≡ true → list_all plain zs ≡ true
zeros-plain [] m = refl
zeros-plain (z ∷ zs) m =
    let both = and-both (nat_eq z 48) (list_all is_zero zs) m in
    let same : z ≡ 48 = grind (arith, nat_tests) in
    rw same (zeros-plain zs both.1)

-- the last character of a number's text is the last of its suffix, or a digit
module _ (p : ℕ → Bool) (digit : (c : ℕ) → 48 ≤ c → c ≤ 57 → p c ≡ true) (k : ℕ) (small : k < 2 ^ 31) where
  last_digit : (xs : List ℕ) → last_passes p (xs ++ (decimal k ++ [])) ≡ true
  last_digit xs = by (decimal k) (numeral k small) (decimal_is_IsNumeral k (omega arith)).0.0
    where
      by : (ds : List ℕ) → AllDigits 10 ds → 0 < length ds → last_passes p (xs ++ (ds ++ [])) ≡ true
      by [] h some = absurd (omega arith)
      by (d ∷ ds) h some = last-append p xs d (ds ++ []) ∙ ap (last_passes p) (append-nil (d ∷ ds)) ∙ last-all p (d ∷ ds) (digits-plain p digit (d ∷ ds) h)

  last_of : (xs white suffix : List ℕ) → (suffix ≢ [] → last_passes p suffix ≡ true) → last_passes p (xs ++ (decimal k ++ behind_value white suffix)) ≡ true
  last_of xs white [] h = last_digit xs
  last_of xs white (c ∷ cs) h =
      ap (last_passes p) (sym (append_assoc xs (decimal k) (white ++ c ∷ cs)) ∙ sym (append_assoc (xs ++ decimal k) white (c ∷ cs)))
      ∙ last-append p ((xs ++ decimal k) ++ white) c cs ∙ h (λ e. cc)

ends_otherwise : (x : ℕ) (cs : List ℕ) → ends_in x cs ≡ false → last_passes (λ c. not (nat_eq c x)) cs ≡ true
ends_otherwise x [] h = refl
ends_otherwise x (c ∷ []) h = rw h refl
ends_otherwise x (c ∷ d ∷ cs) h = ends_otherwise x (d ∷ cs) h

suffix_escape : (white suffix : List ℕ) → scalars (white ++ suffix) ≡ true → suffix_ends_in 92 (suffix_with white suffix) ≡ false → suffix ≢ [] → last_passes (λ c. not (nat_eq c 92)) suffix ≡ true
suffix_escape white [] u h some = absurd (some refl)
suffix_escape white (c ∷ cs) u h some =
    let text = chars-encodes (white ++ c ∷ cs) u in
    let other : ends_in 92 (white ++ c ∷ cs) ≡ false = rw text at h in
    sym (last-append (λ d. not (nat_eq d 92)) white c cs) ∙ ends_otherwise 92 (white ++ c ∷ cs) other

pub joined_some : (xs ys : List ℕ) → 0 < length ys → 0 < length (xs ++ ys)
joined_some [] ys h = h
joined_some (x ∷ xs) ys h = omega arith

-- the number of a half
module _ (name zeros white suffix : List ℕ) (a : AreAffixes name zeros white suffix) (k : ℕ) (small : k < 2 ^ 31) (pass : (list_all plain name ≡ true) × (list_all plain white ≡ true) × (list_all plain suffix ≡ true)) where
  readable : nat_lt k (2 ^ 31) ≡ true
  readable = grind (arith, nat_tests)

  fits : (zs : List ℕ) → zeros_fit zs (pos k) ≡ true
  fits [] = refl
  fits (z ∷ zs) = refl

  number : NumericView
  number = with_affixes (name ++ zeros) white suffix (Single (pos k))

  text : List ℕ
  text = single_text name zeros white suffix a (pos k)

  none : (cs : List ℕ) → list_all plain cs ≡ true → first_delimiter cs ≡ None
  none [] p = refl
  none (c ∷ cs) p =
      let both = plain-apart c (and-both (plain c) (list_all plain cs) p).0 in
      let x : nat_eq c 44 ≡ false = no_comma c both.0 in
      let y : nat_eq c 38 ≡ false = no_ampersand c both.0 in
      rw (x, y, both.1) refl
    where
      no_comma : (c : ℕ) → is_separator c ≡ false → nat_eq c 44 ≡ false
      no_comma c s = grind (arith, nat_tests)

      no_ampersand : (c : ℕ) → is_separator c ≡ false → nat_eq c 38 ≡ false
      no_ampersand c s = grind (arith, nat_tests)

  number_text : NumberText number text
  unfolding number text
  number_text =
      let skip = single-skip name zeros white suffix a (pos k) readable (fits zeros) in
      let read = single-read name zeros white suffix a (pos k) readable (fits zeros) (none suffix pass.2) in
      let front = kept-start (single_text name zeros white suffix a (pos k)) skip in
      let back : last_passes solid (name ++ (zeros ++ (decimal k ++ behind_value white suffix))) ≡ true =
      ap (last_passes solid) (sym (append_assoc name zeros (decimal k ++ behind_value white suffix))) ∙ last_of solid digit-solid k small (name ++ zeros) white suffix (λ some. last-all solid suffix (solid_suffix suffix a.members)) in
      let trimmed = trim-kept (single_text name zeros white suffix a (pos k)) front back in
      let nonempty = (decimal_is_IsNumeral k (omega arith)).0.0 in
      record {
        shown = single-shown name zeros white suffix a (pos k) readable;
        utf8 = single-utf8 name zeros white suffix a (pos k) readable;
        read = rw (trimmed, read) refl;
        plain_text = all-append plain name _ pass.0 (all-append plain zeros _ (zeros-plain zeros a.zeros_all) (all-append plain (decimal k) _ (digits-plain plain digit-plain (decimal k) (numeral k small)) (behind-all plain white suffix pass.1 pass.2)));
        front = front;
        back = back;
        some = joined_some name _ (joined_some zeros _ (longer (decimal k) nonempty));
        exact = sym (append_assoc (text_or_nothing number.prefix) (decimal k) (text_or_nothing number.suffix));
        from_zero = alone_from_zero k number.prefix number.suffix;
        escape = λ e. ap (last_passes (λ c. not (nat_eq c 92))) (sym (append_assoc name zeros (decimal k ++ behind_value white suffix)))
            ∙ last_of (λ c. not (nat_eq c 92)) digit-other k small (name ++ zeros) white suffix (suffix_escape white suffix a.behind_text e);
      }
    where
      longer : (ds : List ℕ) → 0 < length ds → 0 < length (ds ++ behind_value white suffix)
      longer [] h = absurd (omega arith)
      longer (d ∷ ds) h = omega arith

pub inside_half : (r : Result NumericView _) (n : NumericView) → result_map_both (λ m. m) fault_of r ≡ Ok n → r ≡ Ok n
inside_half (Ok m) n h = let same : m ≡ n = cc in ap Ok same
inside_half (Err e) n h = cc

pub half_text : (cs : List ℕ) (n : NumericView) → list_all good cs ≡ true → half_read cs ≡ Ok n → (text : List ℕ) × NumberText n text
unfolding number
half_text cs n all h =
    let trimmed = trim-all good cs all in
    let parts = (is-read (trim_chars cs)).ok n (inside_half (read_from (skip_leading_whitespace (trim_chars cs))) n h) in
    let pass = parts-all plain parts (all-first (trim_chars cs) trimmed) in
    let a = part_affixes (trim_chars cs) n (all-scalars (trim_chars cs) ∙ all-second (trim_chars cs) trimmed) parts in
    let name : List ℕ = parts.prefixed.name in
    let zeros : List ℕ = parts.prefixed.kept in
    let one = single parts pass in
    let same : n ≡ with_affixes (name ++ zeros) parts.white parts.suffix (Single (pos one.0)) = parts_are (trim_chars cs) n parts ∙ ap (with_affixes (name ++ zeros) parts.white parts.suffix) one.1 in
    let it : List ℕ = text name zeros parts.white parts.suffix a one.0 one.2 (pass.name, pass.white, pass.suffix) in
    (it, subst (λ m. NumberText m it) (sym same) (number_text name zeros parts.white parts.suffix a one.0 one.2 (pass.name, pass.white, pass.suffix)))
