-- Printed numbers, read back.
use Rattle.std.proofs.Common.{◌≡◌, ◌≢◌, Bool, ◌||◌, not, nat_eq, ℕ, zero, suc, ◌<◌, ◌≤◌, ◌^◌, true, false, ◌&&◌, List, [], ◌∷◌, ◌++◌, length, refl, ap, sym, ◌∙◌, subst, ℤ, pos, negsuc, Option, Some, None, Ok, arith, append_assoc}
use Rattle.std.specs.Prelude.{flat_map, option_map}
use Rattle.std.specs.Char.{encode_utf8, is_whitespace}
use Rattle.std.specs.List.{list_all}
use Rattle.std.specs.Fmt.{decimal, signed_decimal}
use Rattle.std.specs.Str.{IsUtf8, IsAscii, chars, encode_utf8_all, skip_leading_whitespace}
use lib.Utf8.{scalars}
use Rattle.std.proofs.lemmas.Fmt.{IsAscii-signed, decimal_nonempty}
use Rattle.std.proofs.lemmas.List.{append-nil, length-append}
use Rattle.std.proofs.lemmas.Str.{IsUtf8-append, chars-append, chars-encodes, chars-IsAscii, chars-nil, IsUtf8-from_ascii}
use Rattle.std.proofs.lemmas.Bool.Decides.{nat_tests}
use Rattle.ucd_category.proofs.Computing.{ucd_category}
use Rattle.haya_text.proofs.Tells.{and-both}
use Rattle.haya_numbers.specs.declared.numeric.NumericDelimiter.{NumericDelimiter}
use Rattle.haya_numbers.specs.declared.numeric.NumericDelimiter.TheVariants.{Comma, Ampersand, Hyphen}
use Rattle.haya_text.specs.Characters.{is_numeric, run, behind_run, begins_with}
use Rattle.haya_numbers.specs.Characters.{is_delimiter}
use Rattle.haya_numbers.specs.Numeric.{Item, ValueView, Single, SetOf, NumericView, without_affixes}
use Rattle.haya_numbers.specs.NumericBack.{is_readable, may_follow, items_read_back, value_reads_back, reads_back}
use Rattle.haya_numbers.specs.NumericPrinted.{formatted_delimiter, item_text, text_or_nothing, shown_numeric}
use Rattle.haya_numbers.specs.NumericReading.{delimited, item_front, items_front, first_delimiter, is_affix, is_suffix, spare_zeros, past_zeros, affix, suffix_with, suffixed, read_from, numeric_read, valued}
use Rattle.haya_numbers.proofs.Digits.{number_front-signed, front-signed, pos-numeric, skip-signed, run-undelimited}
use Rattle.haya_numbers.proofs.Grammars.{is_zero, zero_numeric, next_numeric, runs-front, skip-is}

-- the characters that are shown of a delimiter, and of a set
abbrev pub delimiter_chars : NumericDelimiter → List ℕ
delimiter_chars Comma = 44 ∷ 32 ∷ []
delimiter_chars Ampersand = 32 ∷ 38 ∷ 32 ∷ []
delimiter_chars Hyphen = 8211 ∷ []

abbrev item_chars : Item → List ℕ
item_chars i = signed_decimal i.0 ++ text_or_nothing (option_map delimiter_chars i.1)

-- the same, and then these
abbrev items_chars : List Item → List ℕ → List ℕ
items_chars [] t = t
items_chars (i ∷ is) t = item_chars i ++ items_chars is t

-- what stands behind a delimiter, before the next number
abbrev pub past_delimiter : NumericDelimiter → List ℕ → List ℕ
past_delimiter Comma cs = 32 ∷ cs
past_delimiter Ampersand cs = 32 ∷ cs
past_delimiter Hyphen cs = cs

-- a delimiter before a number: it is no digit, white space is skipped, and it is named
pub record IsBefore (d : NumericDelimiter) (cs : List ℕ) : Type 0 where
  pub apart : begins_with is_numeric (delimiter_chars d ++ cs) ≡ false
  pub named : delimited (pos 0) (skip_leading_whitespace (delimiter_chars d ++ cs)) ≡ ((pos 0, Some d), past_delimiter d cs)
  pub first : first_delimiter (skip_leading_whitespace (delimiter_chars d ++ cs)) ≡ Some d
  pub past : behind_run is_delimiter (skip_leading_whitespace (delimiter_chars d ++ cs)) ≡ past_delimiter d cs

pub before_number : (d : NumericDelimiter) (m : ℤ) (rest : List ℕ) → is_readable m ≡ true → may_follow d m ≡ true → IsBefore d (signed_decimal m ++ rest)
unfolding ucd_category
before_number Comma m rest h f = record { apart = refl; named = refl; first = refl; past = refl }
before_number Ampersand m rest h f = record { apart = refl; named = refl; first = refl; past = refl }
before_number Hyphen (negsuc m) rest h f = cc
before_number Hyphen (pos m) rest h f =
    let small : m < 2 ^ 31 = grind (arith, nat_tests) in
    let r = run-undelimited m rest small in
    record { apart = refl; named = rw (r.0, r.1) refl; first = refl; past = r.1 }

-- the next number of a set, where white space may stand before it
item-read : (n : ℤ) (d : NumericDelimiter) (cs rest : List ℕ) → is_readable n ≡ true → IsBefore d rest → skip_leading_whitespace cs ≡ signed_decimal n ++ (delimiter_chars d ++ rest)
    → item_front cs ≡ Some ((n, Some d), past_delimiter d rest)
item-read n d cs rest h b e =
    let r = number_front-signed n (delimiter_chars d ++ rest) h b.apart in
    let same : delimited n (skip_leading_whitespace (delimiter_chars d ++ rest)) ≡ ((n, Some d), past_delimiter d rest) = ap (λ p. ((n, p.0.1), p.1)) b.named in
    rw (e, r) (ap Some same)

item-last : (n : ℤ) (cs t : List ℕ) → is_readable n ≡ true → begins_with is_numeric t ≡ false → begins_with is_delimiter (skip_leading_whitespace t) ≡ false → skip_leading_whitespace cs ≡ signed_decimal n ++ t
    → item_front cs ≡ Some ((n, None), skip_leading_whitespace t)
item-last n cs t h a d e =
    let r = runs-front is_delimiter [] (skip_leading_whitespace t) refl d in
    rw (e, number_front-signed n t h a, r.0, r.1) refl

-- white space before the next number is skipped
skip-past_delimiter : (d : NumericDelimiter) (n : ℤ) (rest : List ℕ) → is_readable n ≡ true → skip_leading_whitespace (past_delimiter d (signed_decimal n ++ rest)) ≡ signed_decimal n ++ rest
skip-past_delimiter Comma n rest h = skip-signed n rest h
skip-past_delimiter Ampersand n rest h = skip-signed n rest h
skip-past_delimiter Hyphen n rest h = skip-signed n rest h

head_readable : (i : Item) (is : List Item) → items_read_back (i ∷ is) ≡ true → is_readable i.0 ≡ true
head_readable (n, None) [] h = h
head_readable (n, None) (j ∷ is) h = cc
head_readable (n, Some d) [] h = cc
head_readable (n, Some d) (j ∷ is) h = (and-both (is_readable n) (may_follow d j.0) (and-both (is_readable n && may_follow d j.0) (items_read_back (j ∷ is)) h).0).0

-- the numbers of a set, from any of them on, before what ends them
module _ (t : List ℕ) (apart : begins_with is_numeric t ≡ false) (ends : begins_with is_delimiter (skip_leading_whitespace t) ≡ false) where
  items-read : (items : List Item) (k : ℕ) (cs : List ℕ) → items_read_back items ≡ true → length items ≤ k → skip_leading_whitespace cs ≡ items_chars items t → items_front k cs ≡ Some (items, skip_leading_whitespace t)
  items-read [] k cs h l e = cc
  items-read (i ∷ is) zero cs h l e = absurd (omega arith)
  items-read ((n, None) ∷ []) (suc k) cs h l e =
      let shown : skip_leading_whitespace cs ≡ signed_decimal n ++ t = e ∙ ap (λ v. v ++ t) (append-nil (signed_decimal n)) in
      rw (item-last n cs t h apart ends shown) refl
  items-read ((n, None) ∷ j ∷ is) (suc k) cs h l e = cc
  items-read ((n, Some d) ∷ []) (suc k) cs h l e = cc
  items-read ((n, Some d) ∷ (m, o) ∷ is) (suc k) cs h l e =
      let more = and-both (is_readable n && may_follow d m) (items_read_back ((m, o) ∷ is)) h in
      let two = and-both (is_readable n) (may_follow d m) more.0 in
      let next = head_readable (m, o) is more.1 in
      let tail : List ℕ = text_or_nothing (option_map delimiter_chars o) ++ items_chars is t in
      let grouped : items_chars ((m, o) ∷ is) t ≡ signed_decimal m ++ tail = append_assoc (signed_decimal m) (text_or_nothing (option_map delimiter_chars o)) (items_chars is t) in
      let b = before_number d m tail next two.1 in
      let shown : skip_leading_whitespace cs ≡ signed_decimal n ++ (delimiter_chars d ++ (signed_decimal m ++ tail)) =
      e ∙ append_assoc (signed_decimal n) (delimiter_chars d) (items_chars ((m, o) ∷ is) t) ∙ ap (λ v. signed_decimal n ++ (delimiter_chars d ++ v)) grouped in
      let first = item-read n d cs (signed_decimal m ++ tail) two.0 b shown in
      let rest = items-read ((m, o) ∷ is) k (past_delimiter d (signed_decimal m ++ tail)) more.1 (omega arith) (skip-past_delimiter d m tail next ∙ sym grouped) in
      rw (first, rest) refl

-- the characters of what is shown
delimiter-shown : (o : Option NumericDelimiter) → IsUtf8 (text_or_nothing (option_map (formatted_delimiter false) o)) × (chars (text_or_nothing (option_map (formatted_delimiter false) o)) ≡ text_or_nothing (option_map delimiter_chars o))
unfolding chars encode_utf8
delimiter-shown None = (([], (refl, refl)), refl)
delimiter-shown (Some Comma) = ((44 ∷ 32 ∷ [], (refl, refl)), refl)
delimiter-shown (Some Ampersand) = ((32 ∷ 38 ∷ 32 ∷ [], (refl, refl)), refl)
delimiter-shown (Some Hyphen) = ((8211 ∷ [], (refl, refl)), refl)

pub signed_ascii : (n : ℤ) → is_readable n ≡ true → IsAscii (signed_decimal n)
signed_ascii (pos m) h = let small : m < 2 ^ 31 = grind (arith, nat_tests) in IsAscii-signed (pos m) (omega arith)
signed_ascii (negsuc m) h = let small : suc m < 2 ^ 31 = grind (arith, nat_tests) in IsAscii-signed (negsuc m) (omega arith)

item-shown : (i : Item) (rest : List ℕ) → is_readable i.0 ≡ true → chars (item_text signed_decimal (formatted_delimiter false) i ++ rest) ≡ item_chars i ++ chars rest
item-shown (n, o) rest h =
    let d = delimiter-shown o in
    let b : List ℕ = text_or_nothing (option_map (formatted_delimiter false) o) in
    let a = signed_ascii n h in
    ap chars (append_assoc (signed_decimal n) b rest)
    ∙ chars-append (signed_decimal n) (b ++ rest) (IsUtf8-from_ascii (signed_decimal n) a)
    ∙ ap (λ v. v ++ chars (b ++ rest)) (chars-IsAscii (signed_decimal n) a)
    ∙ ap (λ v. signed_decimal n ++ v) (chars-append b rest d.0 ∙ ap (λ v. v ++ chars rest) d.1)
    ∙ sym (append_assoc (signed_decimal n) (text_or_nothing (option_map delimiter_chars o)) (chars rest))

items-shown : (items : List Item) (t : List ℕ) → items_read_back items ≡ true → chars (flat_map (item_text signed_decimal (formatted_delimiter false)) items ++ t) ≡ items_chars items (chars t)
items-shown [] t h = cc
items-shown (i ∷ []) t h = ap (λ v. chars (v ++ t)) (append-nil (item_text signed_decimal (formatted_delimiter false) i)) ∙ item-shown i t (head_readable i [] h)
items-shown ((n, None) ∷ j ∷ is) t h = cc
items-shown ((n, Some d) ∷ j ∷ is) t h =
    let more = and-both (is_readable n && may_follow d j.0) (items_read_back (j ∷ is)) h in
    let shown : List ℕ = flat_map (item_text signed_decimal (formatted_delimiter false)) (j ∷ is) in
    ap chars (append_assoc (item_text signed_decimal (formatted_delimiter false) (n, Some d)) shown t)
    ∙ item-shown (n, Some d) (shown ++ t) (head_readable (n, Some d) (j ∷ is) h)
    ∙ ap (λ v. item_chars (n, Some d) ++ v) (items-shown (j ∷ is) t more.1)

-- each number takes a character at least
pub signed_nonempty : (n : ℤ) → is_readable n ≡ true → 0 < length (signed_decimal n)
signed_nonempty (pos m) h = let small : m < 2 ^ 31 = grind (arith, nat_tests) in decimal_nonempty m (omega arith)
signed_nonempty (negsuc m) h = omega arith

items-length : (items : List Item) (t : List ℕ) → items_read_back items ≡ true → length items ≤ length (items_chars items t)
items-length [] t h = omega arith
items-length (i ∷ []) t h =
    omega (arith, signed_nonempty i.0 (head_readable i [] h), length-append (signed_decimal i.0) (text_or_nothing (option_map delimiter_chars i.1)), length-append (item_chars i) t)
items-length ((n, None) ∷ j ∷ is) t h = cc
items-length ((n, Some d) ∷ j ∷ is) t h =
    let more = and-both (is_readable n && may_follow d j.0) (items_read_back (j ∷ is)) h in
    omega (arith, signed_nonempty n (head_readable (n, Some d) (j ∷ is) h), length-append (signed_decimal n) (delimiter_chars d), length-append (item_chars (n, Some d)) (items_chars (j ∷ is) t), items-length (j ∷ is) t more.1)

length-past_delimiter : (d : NumericDelimiter) (cs : List ℕ) → length cs ≤ length (past_delimiter d cs)
length-past_delimiter Comma cs = omega arith
length-past_delimiter Ampersand cs = omega arith
length-past_delimiter Hyphen cs = omega arith

-- the zeros of a prefix stand before a number from 0 on
abbrev pub zeros_fit : List ℕ → ℤ → Bool
zeros_fit [] n = true
zeros_fit (z ∷ zs) (pos m) = true
zeros_fit (z ∷ zs) (negsuc m) = false

-- the white space that is shown behind the first number of a set
abbrev pub white_shown : NumericDelimiter → List ℕ
white_shown Comma = []
white_shown Ampersand = 32 ∷ []
white_shown Hyphen = []

-- white space and a suffix, where there is one
abbrev pub behind_value : List ℕ → List ℕ → List ℕ
behind_value white [] = []
behind_value white (c ∷ cs) = white ++ c ∷ cs

zeros-before : (zs r : List ℕ) → list_all is_zero zs ≡ true → begins_with is_numeric r ≡ true → (spare_zeros (zs ++ r) ≡ zs ++ spare_zeros r) × (past_zeros (zs ++ r) ≡ past_zeros r)
zeros-before [] r m s = (refl, refl)
zeros-before (z ∷ zs) r m s =
    let both = and-both (nat_eq z 48) (list_all is_zero zs) m in
    let more = zeros-before zs r both.1 s in
    let one : nat_eq z 48 ≡ true = both.0 in
    rw (one, next_numeric zs r both.1 s) (ap (λ v. z ∷ v) more.0, more.1)

-- the front of what is shown: a prefix, and the first number
module _ (name zeros : List ℕ) (n : ℤ) (rest : List ℕ) (affixes : list_all is_affix name ≡ true) (all : list_all is_zero zeros ≡ true) (front : begins_with is_whitespace name ≡ false)
    (fit : zeros_fit zeros n ≡ true) (h : is_readable n ≡ true) (apart : begins_with is_numeric rest ≡ false) where
  front_zeros : (zs : List ℕ) → list_all is_zero zs ≡ true → zeros_fit zs n ≡ true
      → (begins_with is_affix (zs ++ (signed_decimal n ++ rest)) ≡ false) × (spare_zeros (zs ++ (signed_decimal n ++ rest)) ≡ zs) × (past_zeros (zs ++ (signed_decimal n ++ rest)) ≡ signed_decimal n ++ rest)
  front_zeros [] m f = front-signed n rest h apart
  front_zeros (z ∷ zs) m f = by n h f (front-signed n rest h apart)
    where
      by : (n : ℤ) → is_readable n ≡ true → zeros_fit (z ∷ zs) n ≡ true
          → (begins_with is_affix (signed_decimal n ++ rest) ≡ false) × (spare_zeros (signed_decimal n ++ rest) ≡ []) × (past_zeros (signed_decimal n ++ rest) ≡ signed_decimal n ++ rest)
          → (begins_with is_affix (z ∷ (zs ++ (signed_decimal n ++ rest))) ≡ false) × (spare_zeros (z ∷ (zs ++ (signed_decimal n ++ rest))) ≡ z ∷ zs) × (past_zeros (z ∷ (zs ++ (signed_decimal n ++ rest))) ≡ signed_decimal n ++ rest)
      by (negsuc k) g f own = cc
      by (pos k) g f own =
          let small : k < 2 ^ 31 = grind (arith, nat_tests) in
          let b = zeros-before (z ∷ zs) (decimal k ++ rest) m (pos-numeric k rest small) in
          let one = zero_numeric z (and-both (nat_eq z 48) (list_all is_zero zs) m).0 in
          let none : is_affix z ≡ false = rw one refl in
          (none, b.0 ∙ ap (λ v. (z ∷ zs) ++ v) own.1 ∙ append-nil (z ∷ zs), b.1 ∙ own.2)

  pub skip-front : (name : List ℕ) → begins_with is_whitespace name ≡ false → skip_leading_whitespace (name ++ (zeros ++ (signed_decimal n ++ rest))) ≡ name ++ (zeros ++ (signed_decimal n ++ rest))
  skip-front (c ∷ cs) s = rw s refl
  skip-front [] s = by zeros all
    where
      by : (zs : List ℕ) → list_all is_zero zs ≡ true → skip_leading_whitespace (zs ++ (signed_decimal n ++ rest)) ≡ zs ++ (signed_decimal n ++ rest)
      by [] m = skip-signed n rest h
      by (z ∷ zs) m =
          let one = (and-both (nat_eq z 48) (list_all is_zero zs) m).0 in
          let same : z ≡ 48 = grind (arith, nat_tests) in
          rw same refl

  pub read-first : read_from (skip_leading_whitespace (name ++ (zeros ++ (signed_decimal n ++ rest)))) ≡ valued (name ++ zeros) (Some (n, rest))
  read-first =
      let z = front_zeros zeros all fit in
      let f = runs-front is_affix name (zeros ++ (signed_decimal n ++ rest)) affixes z.0 in
      rw (skip-front name front, f.0, f.1, z.1, z.2, number_front-signed n rest h apart) refl

-- a suffix stands alone behind white space
pub suffix_apart : (c : ℕ) → is_suffix c ≡ true → (is_numeric c ≡ false) × (is_whitespace c ≡ false)
suffix_apart c h = by (is_numeric c) (is_whitespace c) h
  where
    by : (a b : Bool) → not (a || b) ≡ true → (a ≡ false) × (b ≡ false)
    by false false h = (refl, refl)
    by false true h = cc
    by true b h = cc

pub suffix_alone : (suffix : List ℕ) → list_all is_suffix suffix ≡ true → (skip_leading_whitespace suffix ≡ suffix) × (run is_suffix suffix ≡ suffix) × (behind_run is_suffix suffix ≡ [])
suffix_alone suffix m =
    let whole = append-nil suffix in
    let r = rw whole at (runs-front is_suffix suffix [] m refl) in
    (by suffix m, r.0, r.1)
  where
    by : (cs : List ℕ) → list_all is_suffix cs ≡ true → skip_leading_whitespace cs ≡ cs
    by [] m = refl
    by (c ∷ cs) m = rw (suffix_apart c (and-both (is_suffix c) (list_all is_suffix cs) m).0).1 refl

-- the number with these affixes
abbrev pub with_affixes : List ℕ → List ℕ → List ℕ → ValueView → NumericView
with_affixes before white suffix v = record { value = v; prefix = affix (encode_utf8_all before); suffix = suffix_with white suffix }

ended-suffix : (before white suffix : List ℕ) (v : ValueView) → list_all is_suffix suffix ≡ true → suffixed before white (Some (v, suffix)) ≡ Ok (with_affixes before white suffix v)
ended-suffix before white suffix v m = let s = suffix_alone suffix m in rw (s.0, s.1, s.2) refl

pub same_suffix : (white shown suffix : List ℕ) → (suffix ≢ [] → shown ≡ white) → suffix_with shown suffix ≡ suffix_with white suffix
same_suffix white shown [] h = refl
same_suffix white shown (c ∷ cs) h = ap (λ w. suffix_with w (c ∷ cs)) (h (λ e. cc))

-- what stands behind a value
module _ (white suffix : List ℕ) (space : list_all is_whitespace white ≡ true) (first : begins_with is_numeric white ≡ false) (members : list_all is_suffix suffix ≡ true) where
  suffix_starts : (cs : List ℕ) → list_all is_suffix cs ≡ true → (begins_with is_numeric cs ≡ false) × (begins_with is_whitespace cs ≡ false)
  suffix_starts [] m = (refl, refl)
  suffix_starts (c ∷ cs) m = suffix_apart c (and-both (is_suffix c) (list_all is_suffix cs) m).0

  pub behind : (cs : List ℕ) → suffix ≡ cs → (begins_with is_numeric (behind_value white cs) ≡ false) × (skip_leading_whitespace (behind_value white cs) ≡ cs) × (cs ≢ [] → run is_whitespace (behind_value white cs) ≡ white)
  behind [] e = (refl, refl, λ no. absurd (no refl))
  behind (c ∷ cs) e =
      let own = suffix_starts (c ∷ cs) (rw e at members) in
      let r = runs-front is_whitespace white (c ∷ cs) space own.1 in
      (by white first own.0, skip-is (white ++ c ∷ cs) white (c ∷ cs) (record { joined = refl; members = space; longest = own.1 }), λ some. r.0)
    where
      by : (w : List ℕ) → begins_with is_numeric w ≡ false → is_numeric c ≡ false → begins_with is_numeric (w ++ c ∷ cs) ≡ false
      by [] f g = g
      by (x ∷ w) f g = f

-- the characters of affixes
pub affix-shown : (bs : List ℕ) → text_or_nothing (affix bs) ≡ bs
affix-shown [] = refl
affix-shown (b ∷ bs) = refl

pub chars-suffix : (white suffix : List ℕ) → scalars (white ++ suffix) ≡ true → chars (text_or_nothing (suffix_with white suffix)) ≡ behind_value white suffix
chars-suffix white [] u = chars-nil
chars-suffix white (c ∷ cs) u = chars-encodes (white ++ c ∷ cs) u

chars-prefix : (before text : List ℕ) → scalars before ≡ true → chars (text_or_nothing (affix (encode_utf8_all before)) ++ text) ≡ before ++ chars text
chars-prefix before text u =
    ap (λ v. chars (v ++ text)) (affix-shown (encode_utf8_all before)) ∙ chars-append (encode_utf8_all before) text (before, (u, refl)) ∙ ap (λ v. v ++ chars text) (chars-encodes before u)

-- A number with affixes that is printed, and read again. The prefix is characters that are neither
-- numeric nor a hyphen, and then zeros.
pub record AreAffixes (name zeros white suffix : List ℕ) : Type 0 where
  pub affixes : list_all is_affix name ≡ true
  pub zeros_all : list_all is_zero zeros ≡ true
  pub front : begins_with is_whitespace name ≡ false
  pub space : list_all is_whitespace white ≡ true
  pub apart : begins_with is_numeric white ≡ false
  pub members : list_all is_suffix suffix ≡ true
  pub before_text : scalars (name ++ zeros) ≡ true
  pub behind_text : scalars (white ++ suffix) ≡ true

module _ (name zeros white suffix : List ℕ) (a : AreAffixes name zeros white suffix) where
  -- the characters of one number
  abbrev pub single_text : ℤ → List ℕ
  single_text n = name ++ (zeros ++ (signed_decimal n ++ behind_value white suffix))

  pub single-shown : (n : ℤ) → is_readable n ≡ true → chars (shown_numeric (with_affixes (name ++ zeros) white suffix (Single n))) ≡ single_text n
  single-shown n h =
      let text : List ℕ = text_or_nothing (suffix_with white suffix) in
      let number = signed_ascii n h in
      ap chars (append_assoc (text_or_nothing (affix (encode_utf8_all (name ++ zeros)))) (signed_decimal n) text)
      ∙ chars-prefix (name ++ zeros) (signed_decimal n ++ text) a.before_text
      ∙ ap (λ v. (name ++ zeros) ++ v) (chars-append (signed_decimal n) text (IsUtf8-from_ascii (signed_decimal n) number) ∙ ap (λ v. v ++ chars text) (chars-IsAscii (signed_decimal n) number) ∙ ap (λ v. signed_decimal n ++ v) (chars-suffix white suffix a.behind_text))
      ∙ append_assoc name zeros (signed_decimal n ++ behind_value white suffix)

  pub single-utf8 : (n : ℤ) → is_readable n ≡ true → IsUtf8 (shown_numeric (with_affixes (name ++ zeros) white suffix (Single n)))
  single-utf8 n h =
      let before : IsUtf8 (text_or_nothing (affix (encode_utf8_all (name ++ zeros)))) = subst IsUtf8 (sym (affix-shown (encode_utf8_all (name ++ zeros)))) (name ++ zeros, (a.before_text, refl)) in
      IsUtf8-append _ _ (IsUtf8-append _ _ before (IsUtf8-from_ascii (signed_decimal n) (signed_ascii n h))) (by suffix a.behind_text)
    where
      by : (cs : List ℕ) → scalars (white ++ cs) ≡ true → IsUtf8 (text_or_nothing (suffix_with white cs))
      by [] u = ([], (refl, refl))
      by (c ∷ cs) u = (white ++ c ∷ cs, (u, refl))

  pub single-read : (n : ℤ) → is_readable n ≡ true → zeros_fit zeros n ≡ true → first_delimiter suffix ≡ None
      → read_from (skip_leading_whitespace (single_text n)) ≡ Ok (with_affixes (name ++ zeros) white suffix (Single n))
  single-read n h fit none =
      let t : List ℕ = behind_value white suffix in
      let b = behind white suffix a.space a.apart a.members suffix refl in
      let same = same_suffix white (run is_whitespace t) suffix b.2 in
      read-first name zeros n t a.affixes a.zeros_all a.front fit h b.0
      ∙ rw (b.1, none, ended-suffix (name ++ zeros) (run is_whitespace t) suffix (Single n) a.members, same) refl

  pub single-skip : (n : ℤ) → is_readable n ≡ true → zeros_fit zeros n ≡ true → skip_leading_whitespace (single_text n) ≡ single_text n
  single-skip n h fit =
      let b = behind white suffix a.space a.apart a.members suffix refl in
      skip-front name zeros n (behind_value white suffix) a.affixes a.zeros_all a.front fit h b.0 name a.front

  pub single-back : (n : ℤ) → is_readable n ≡ true → zeros_fit zeros n ≡ true → first_delimiter suffix ≡ None
      → numeric_read (shown_numeric (with_affixes (name ++ zeros) white suffix (Single n))) ≡ Ok (with_affixes (name ++ zeros) white suffix (Single n))
  single-back n h fit none = ap (λ v. read_from (skip_leading_whitespace v)) (single-shown n h) ∙ single-read n h fit none

  pub set-back : (n m : ℤ) (d : NumericDelimiter) (o : Option NumericDelimiter) (is : List Item) → items_read_back ((n, Some d) ∷ (m, o) ∷ is) ≡ true → zeros_fit zeros n ≡ true
      → begins_with is_delimiter suffix ≡ false → (suffix ≢ [] → white_shown d ≡ white)
      → numeric_read (shown_numeric (with_affixes (name ++ zeros) white suffix (SetOf ((n, Some d) ∷ (m, o) ∷ is)))) ≡ Ok (with_affixes (name ++ zeros) white suffix (SetOf ((n, Some d) ∷ (m, o) ∷ is)))
  set-back n m d o is h fit ends space =
      let items : List Item = (n, Some d) ∷ (m, o) ∷ is in
      let t : List ℕ = behind_value white suffix in
      let text : List ℕ = text_or_nothing (suffix_with white suffix) in
      let behind_it = behind white suffix a.space a.apart a.members suffix refl in
      let more = and-both (is_readable n && may_follow d m) (items_read_back ((m, o) ∷ is)) h in
      let two = and-both (is_readable n) (may_follow d m) more.0 in
      let next = head_readable (m, o) is more.1 in
      let tail : List ℕ = text_or_nothing (option_map delimiter_chars o) ++ items_chars is t in
      let grouped : items_chars ((m, o) ∷ is) t ≡ signed_decimal m ++ tail = append_assoc (signed_decimal m) (text_or_nothing (option_map delimiter_chars o)) (items_chars is t) in
      let b = before_number d m tail next two.1 in
      let rest : List ℕ = delimiter_chars d ++ (signed_decimal m ++ tail) in
      let set_shown : items_chars items t ≡ signed_decimal n ++ rest = append_assoc (signed_decimal n) (delimiter_chars d) (items_chars ((m, o) ∷ is) t) ∙ ap (λ v. signed_decimal n ++ (delimiter_chars d ++ v)) grouped in
      let shown : chars (shown_numeric (with_affixes (name ++ zeros) white suffix (SetOf items))) ≡ name ++ (zeros ++ (signed_decimal n ++ rest)) =
      ap chars (append_assoc (text_or_nothing (affix (encode_utf8_all (name ++ zeros)))) (flat_map (item_text signed_decimal (formatted_delimiter false)) items) text)
      ∙ chars-prefix (name ++ zeros) (flat_map (item_text signed_decimal (formatted_delimiter false)) items ++ text) a.before_text
      ∙ ap (λ v. (name ++ zeros) ++ v) (items-shown items text h ∙ ap (items_chars items) (chars-suffix white suffix a.behind_text) ∙ set_shown)
      ∙ append_assoc name zeros (signed_decimal n ++ rest) in
      let fits : length ((m, o) ∷ is) ≤ length (past_delimiter d (signed_decimal m ++ tail)) =
      omega (arith, items-length ((m, o) ∷ is) t more.1, ap length grouped, length-past_delimiter d (signed_decimal m ++ tail)) in
      let stops : begins_with is_delimiter (skip_leading_whitespace t) ≡ false = rw behind_it.1 ends in
      let read = items-read t behind_it.0 stops ((m, o) ∷ is) (length (past_delimiter d (signed_decimal m ++ tail))) (past_delimiter d (signed_decimal m ++ tail)) more.1 fits (skip-past_delimiter d m tail next ∙ sym grouped) in
      let same = same_suffix white (white_shown d) suffix space in
      ap (λ v. read_from (skip_leading_whitespace v)) shown
      ∙ read-first name zeros n rest a.affixes a.zeros_all a.front fit two.0 b.apart
      ∙ rw (shown_white d (signed_decimal m ++ tail), b.first, b.past, read, behind_it.1, ended-suffix (name ++ zeros) (white_shown d) suffix (SetOf items) a.members, same) refl
    where
      shown_white : (d : NumericDelimiter) (cs : List ℕ) → run is_whitespace (delimiter_chars d ++ cs) ≡ white_shown d
      shown_white Comma cs = refl
      shown_white Ampersand cs = refl
      shown_white Hyphen cs = refl

no_affixes : AreAffixes [] [] [] []
no_affixes = record { affixes = refl; zeros_all = refl; front = refl; space = refl; apart = refl; members = refl; before_text = refl; behind_text = refl }

value-back : (v : ValueView) → value_reads_back v ≡ true → numeric_read (shown_numeric (without_affixes v)) ≡ Ok (without_affixes v)
value-back (Single n) h = single-back [] [] [] [] no_affixes n h refl refl
value-back (SetOf []) h = cc
value-back (SetOf (i ∷ [])) h = cc
value-back (SetOf ((n, None) ∷ j ∷ is)) h = cc
value-back (SetOf ((n, Some d) ∷ (m, o) ∷ is)) h = set-back [] [] [] [] no_affixes n m d o is h refl refl (λ some. absurd (some refl))

pub numeric-back : (n : NumericView) → reads_back n ≡ true → numeric_read (shown_numeric n) ≡ Ok n
numeric-back n h = go n.value n.prefix n.suffix h
  where
    go : (v : ValueView) (p s : Option (List ℕ)) → reads_back (record { value = v; prefix = p; suffix = s }) ≡ true → numeric_read (shown_numeric (record { value = v; prefix = p; suffix = s })) ≡ Ok (record { value = v; prefix = p; suffix = s })
    go v None None h = value-back v h
    go v None (Some s) h = cc
    go v (Some p) s h = cc
