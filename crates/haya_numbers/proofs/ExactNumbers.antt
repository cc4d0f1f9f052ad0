-- Numbers that were read from a text, and are read again from their exact text.
use Rattle.std.proofs.Common.{◌≡◌, ℕ, Bool, true, false, List, [], ◌∷◌, ◌++◌, refl, ap, sym, ◌∙◌, subst, ℤ, Option, Some, None, Ok, append_assoc}
use Rattle.std.specs.Prelude.{flat_map, option_map, if◌then◌else◌}
use Rattle.std.specs.Char.{encode_utf8, is_whitespace}
use Rattle.std.specs.Fmt.{signed_decimal}
use Rattle.std.specs.List.{list_all}
use Rattle.std.specs.Result.{result_ok}
use Rattle.std.specs.Str.{IsAscii, IsUtf8, chars, encode_utf8_all, skip_leading_whitespace}
use lib.Utf8.{scalar, scalars}
use Rattle.std.proofs.lemmas.Str.{IsUtf8-append, IsUtf8-from_ascii, IsUtf8-nil, chars-append, chars-encodes, chars-IsAscii, chars-nil, scalars-chars}
use Rattle.ucd_category.proofs.Computing.{ucd_category}
use Rattle.haya_text.proofs.Tells.{and-both}
use Rattle.haya_numbers.specs.declared.numeric.NumericDelimiter.{NumericDelimiter}
use Rattle.haya_numbers.specs.declared.numeric.NumericDelimiter.TheVariants.{Comma, Ampersand, Hyphen}
use Rattle.haya_text.specs.Characters.{is_numeric, run, begins_with}
use Rattle.haya_numbers.specs.Characters.{is_delimiter}
use Rattle.haya_numbers.specs.Numeric.{Item, ValueView, Single, SetOf, NumericView}
use Rattle.haya_numbers.specs.NumericBack.{is_readable}
use Rattle.haya_numbers.specs.NumericGrammar.{IsRun, IsItem, AreItems, Last, More, Set}
use Rattle.haya_numbers.specs.NumericPrinted.{delimiter_char, en_dash_bytes, item_text, text_or_nothing}
use Rattle.haya_numbers.specs.NumericReading.{affix, delimiter_read, first_delimiter, is_suffix, numeric_read, read_from, set_from, suffix_with, suffixed}
use Rattle.haya_numbers.specs.NumericRoundTrip.{behind_white, exact_text, leading_white, set_end, spaced_delimiter}
use Rattle.haya_numbers.proofs.Backs.{AreAffixes, affix-shown, behind, behind_value, chars-suffix, read-first, same_suffix, signed_ascii, single-read, single-shown, single-utf8, single_text, suffix_alone, suffix_apart, with_affixes, zeros_fit}
use Rattle.haya_numbers.proofs.Digits.{number_front-signed, skip-signed}
use Rattle.haya_numbers.proofs.Grammars.{is-number, is-read, is-run, is-skip, runs-front, skip-is, value-is}
use Rattle.haya_numbers.proofs.KeptNumbers.{IsMade, WasRead, all-scalars, are_made, front_starts, run-all, was_read}
use Rattle.haya_numbers.proofs.KeptPages.{kept-start}

-- ---- bytes, and the characters that they are

pub record IsText (bytes cs : List ℕ) : Type 0 where
  pub utf8 : IsUtf8 bytes
  pub shown : chars bytes ≡ cs

pub no_text : IsText [] []
no_text = record { utf8 = IsUtf8-nil; shown = chars-nil }

pub join : {xs ys cs ds : List ℕ} → IsText xs cs → IsText ys ds → IsText (xs ++ ys) (cs ++ ds)
join {xs} {ys} {cs} {ds} a b = record {
  utf8 = IsUtf8-append xs ys a.utf8 b.utf8;
  shown = chars-append xs ys a.utf8 ∙ ap (λ l. l ++ chars ys) a.shown ∙ ap (λ l. cs ++ l) b.shown;
}

pub encoded : (cs : List ℕ) → scalars cs ≡ true → IsText (encode_utf8_all cs) cs
encoded cs u = record { utf8 = (cs, (u, refl)); shown = chars-encodes cs u }

ascii_text : (bs : List ℕ) → IsAscii bs → IsText bs bs
ascii_text bs a = record { utf8 = IsUtf8-from_ascii bs a; shown = chars-IsAscii bs a }

pub en_dash_text : IsText en_dash_bytes (8211 ∷ [])
unfolding chars encode_utf8
en_dash_text = record { utf8 = (8211 ∷ [], (refl, refl)); shown = refl }

blank_text : IsText (32 ∷ []) (32 ∷ [])
unfolding chars encode_utf8
blank_text = record { utf8 = (32 ∷ [], (refl, refl)); shown = refl }

-- ---- the numbers of a set from the second on

-- numbers that can be read, all but the last with a delimiter
pub data AreChained : List Item → Type 0 where
  one : (n : ℤ) → is_readable n ≡ true → AreChained ((n, None) ∷ [])
  more : (n : ℤ) (d : NumericDelimiter) (is : List Item) → is_readable n ≡ true → AreChained is → AreChained ((n, Some d) ∷ is)

pub are_chained : (items : List Item) → are_made items ≡ true → AreChained items
are_chained [] h = cc
are_chained ((n, None) ∷ []) h = one n h
are_chained ((n, None) ∷ j ∷ rest) h = cc
are_chained ((n, Some d) ∷ []) h = cc
are_chained ((n, Some d) ∷ j ∷ rest) h =
    let both = and-both (is_readable n) (are_made (j ∷ rest)) h in
    more n d (j ∷ rest) both.0 (are_chained (j ∷ rest) both.1)

-- the characters behind a number
abbrev pub spaced_chars : Option NumericDelimiter → List ℕ
spaced_chars None = []
spaced_chars (Some d) = delimiter_char d ∷ 32 ∷ []

abbrev pub exact_chars : List Item → List ℕ → List ℕ
exact_chars [] t = t
exact_chars (i ∷ is) t = signed_decimal i.0 ++ (spaced_chars i.1 ++ exact_chars is t)

spaced_text : (o : Option NumericDelimiter) → IsText (text_or_nothing (option_map spaced_delimiter o)) (spaced_chars o)
unfolding chars encode_utf8
spaced_text None = record { utf8 = ([], (refl, refl)); shown = refl }
spaced_text (Some Comma) = record { utf8 = (44 ∷ 32 ∷ [], (refl, refl)); shown = refl }
spaced_text (Some Ampersand) = record { utf8 = (38 ∷ 32 ∷ [], (refl, refl)); shown = refl }
spaced_text (Some Hyphen) = record { utf8 = (45 ∷ 32 ∷ [], (refl, refl)); shown = refl }

number_text : (n : ℤ) → is_readable n ≡ true → IsText (signed_decimal n) (signed_decimal n)
number_text n h = ascii_text (signed_decimal n) (signed_ascii n h)

item_first : (i : Item) (is : List Item) (bytes t : List ℕ) → is_readable i.0 ≡ true → IsText (flat_map (item_text signed_decimal spaced_delimiter) is ++ bytes) (exact_chars is t)
    → IsText (flat_map (item_text signed_decimal spaced_delimiter) (i ∷ is) ++ bytes) (exact_chars (i ∷ is) t)
item_first (n, o) is bytes t h rest =
    let f : List ℕ = flat_map (item_text signed_decimal spaced_delimiter) is in
    let d : List ℕ = text_or_nothing (option_map spaced_delimiter o) in
    let e = append_assoc (signed_decimal n ++ d) f bytes ∙ append_assoc (signed_decimal n) d (f ++ bytes) in
    subst (λ (b : List ℕ). IsText b (exact_chars ((n, o) ∷ is) t)) (sym e) (join (number_text n h) (join (spaced_text o) rest))

items_text : {items : List Item} {bytes t : List ℕ} → AreChained items → IsText bytes t → IsText (flat_map (item_text signed_decimal spaced_delimiter) items ++ bytes) (exact_chars items t)
items_text {bytes = bytes} {t = t} (one n h) end = item_first (n, None) [] bytes t h end
items_text {bytes = bytes} {t = t} (more n d is h c) end = item_first (n, Some d) is bytes t h (items_text c end)

-- a delimiter with a blank behind it
record IsSpaced (d : NumericDelimiter) (rest : List ℕ) : Type 0 where
  apart : begins_with is_numeric (delimiter_char d ∷ 32 ∷ rest) ≡ false
  solid : begins_with is_whitespace (delimiter_char d ∷ 32 ∷ rest) ≡ false
  first : first_delimiter (delimiter_char d ∷ 32 ∷ rest) ≡ Some d
  named : result_ok (delimiter_read (delimiter_char d ∷ [])) ≡ Some d
  members : IsRun is_delimiter (delimiter_char d ∷ 32 ∷ rest) (delimiter_char d ∷ []) (32 ∷ rest)
  behind_gap : IsRun is_delimiter (skip_leading_whitespace (delimiter_char d ∷ 32 ∷ rest)) (delimiter_char d ∷ []) (32 ∷ rest)

is_spaced : (d : NumericDelimiter) (rest : List ℕ) → IsSpaced d rest
unfolding ucd_category
is_spaced Comma rest = record { apart = refl; solid = refl; first = refl; named = refl; members = record { joined = refl; members = refl; longest = refl }; behind_gap = record { joined = refl; members = refl; longest = refl } }
is_spaced Ampersand rest = record { apart = refl; solid = refl; first = refl; named = refl; members = record { joined = refl; members = refl; longest = refl }; behind_gap = record { joined = refl; members = refl; longest = refl } }
is_spaced Hyphen rest = record { apart = refl; solid = refl; first = refl; named = refl; members = record { joined = refl; members = refl; longest = refl }; behind_gap = record { joined = refl; members = refl; longest = refl } }

-- what ends a set before its suffix
abbrev pub end_chars : List ℕ → List ℕ
end_chars suffix = if begins_with is_delimiter suffix then 8211 ∷ 8211 ∷ 32 ∷ [] else []

record Ends (t suffix : List ℕ) : Type 0 where
  apart : begins_with is_numeric t ≡ false
  delimiters : List ℕ
  rest : List ℕ
  members : IsRun is_delimiter (skip_leading_whitespace t) delimiters rest
  none : result_ok (delimiter_read delimiters) ≡ None
  skipped : skip_leading_whitespace rest ≡ suffix

suffix_first : (cs : List ℕ) → list_all is_suffix cs ≡ true → begins_with is_numeric cs ≡ false
suffix_first [] m = refl
suffix_first (c ∷ cs) m = (suffix_apart c (and-both (is_suffix c) (list_all is_suffix cs) m).0).0

ends : (suffix : List ℕ) → list_all is_suffix suffix ≡ true → Ends (end_chars suffix ++ suffix) suffix
unfolding ucd_category
ends suffix m = by (begins_with is_delimiter suffix) refl
  where
    by : (b : Bool) → begins_with is_delimiter suffix ≡ b → Ends ((if b then 8211 ∷ 8211 ∷ 32 ∷ [] else []) ++ suffix) suffix
    by true e = record {
      apart = refl;
      delimiters = 8211 ∷ 8211 ∷ [];
      rest = 32 ∷ suffix;
      members = record { joined = refl; members = refl; longest = refl };
      none = refl;
      skipped = (suffix_alone suffix m).0;
    }
    by false e =
        let alone = (suffix_alone suffix m).0 in
        record {
          apart = suffix_first suffix m;
          delimiters = [];
          rest = suffix;
          members = rw alone (record { joined = refl; members = refl; longest = e });
          none = refl;
          skipped = alone;
        }

item : (n : ℤ) (tail delimiters rest : List ℕ) → is_readable n ≡ true → begins_with is_numeric tail ≡ false → IsRun is_delimiter (skip_leading_whitespace tail) delimiters rest → IsItem (32 ∷ (signed_decimal n ++ tail)) n delimiters rest
item n tail delimiters rest h a r = record {
  white = 32 ∷ [];
  at_number = signed_decimal n ++ tail;
  past_number = tail;
  gap = run is_whitespace tail;
  at_delimiters = skip_leading_whitespace tail;
  before = record { joined = refl; members = refl; longest = kept-start (signed_decimal n ++ tail) (skip-signed n tail h) };
  number = is-number (signed_decimal n ++ tail) tail n (number_front-signed n tail h a);
  between = is-skip tail;
  run = r;
}

items_are : {items : List Item} {t suffix : List ℕ} → AreChained items → (e : Ends t suffix) → AreItems (32 ∷ exact_chars items t) items e.rest
items_are {t = t} (one n h) e = Last e.delimiters n (item n t e.delimiters e.rest h e.apart e.members) e.none refl
items_are {t = t} (more n d is h c) e =
    let s = is_spaced d (exact_chars is t) in
    More (delimiter_char d ∷ []) (32 ∷ exact_chars is t) n d is (item n (delimiter_char d ∷ 32 ∷ exact_chars is t) (delimiter_char d ∷ []) (32 ∷ exact_chars is t) h s.apart s.behind_gap) s.named (items_are c e) refl

-- ---- a whole number

pub joined_starts : (p : ℕ → Bool) (xs ys : List ℕ) → begins_with p xs ≡ false → begins_with p ys ≡ false → begins_with p (xs ++ ys) ≡ false
joined_starts p [] ys h k = k
joined_starts p (x ∷ xs) ys h k = h

ended_behind : (before white suffix rest : List ℕ) (v : ValueView) → list_all is_suffix suffix ≡ true → skip_leading_whitespace rest ≡ suffix → suffixed before white (Some (v, rest)) ≡ Ok (with_affixes before white suffix v)
ended_behind before white suffix rest v m h = let s = suffix_alone suffix m in rw (h, s.1, s.2) refl

module _ (name zeros white suffix : List ℕ) (a : AreAffixes name zeros white suffix) where
  -- the white space behind the first number, which is none where there is no suffix
  abbrev pub first_gap : List ℕ
  first_gap = run is_whitespace (behind_value white suffix)

  -- the characters of a set
  abbrev pub set_text : ℤ → NumericDelimiter → List Item → List ℕ
  set_text n d items = name ++ (zeros ++ (signed_decimal n ++ (first_gap ++ (delimiter_char d ∷ 32 ∷ exact_chars items (end_chars suffix ++ suffix)))))

  set_read : (n : ℤ) (d : NumericDelimiter) (items : List Item) → is_readable n ≡ true → zeros_fit zeros n ≡ true → AreChained items
      → read_from (skip_leading_whitespace (set_text n d items)) ≡ Ok (with_affixes (name ++ zeros) white suffix (SetOf ((n, Some d) ∷ items)))
  set_read n d items h fit c =
      let e = ends suffix a.members in
      let x : List ℕ = exact_chars items (end_chars suffix ++ suffix) in
      let at : List ℕ = delimiter_char d ∷ 32 ∷ x in
      let s = is_spaced d x in
      let whole : List ℕ = behind_value white suffix in
      let gap = is-run is_whitespace whole in
      let b = behind white suffix a.space a.apart a.members suffix refl in
      let front = front_starts is_numeric whole first_gap _ gap.joined b.0 in
      let first = read-first name zeros n (first_gap ++ at) a.affixes a.zeros_all a.front fit h (joined_starts is_numeric first_gap at front s.apart) in
      let gone = runs-front is_whitespace first_gap at gap.members s.solid in
      let past = skip-is (first_gap ++ at) first_gap at (record { joined = refl; members = gap.members; longest = s.solid }) in
      let v : ValueView = SetOf ((n, Some d) ∷ items) in
      let value : set_from n (first_delimiter at) at ≡ Some (v, e.rest) = value-is (Set (delimiter_char d ∷ []) (32 ∷ x) d items s.first s.members (items_are c e) refl) in
      let before : List ℕ = name ++ zeros in
      first
      ∙ ap (λ w. suffixed before w (set_from n (first_delimiter (skip_leading_whitespace (first_gap ++ at))) (skip_leading_whitespace (first_gap ++ at)))) gone.0
      ∙ ap (λ (l : List ℕ). suffixed before first_gap (set_from n (first_delimiter l) l)) past
      ∙ ap (suffixed before first_gap) value
      ∙ ended_behind before first_gap suffix e.rest v a.members e.skipped
      ∙ ap (λ o. Ok (record { value = v; prefix = affix (encode_utf8_all before); suffix = o })) (same_suffix white first_gap suffix b.2)

  prefix_text : IsText (text_or_nothing (affix (encode_utf8_all (name ++ zeros)))) (name ++ zeros)
  prefix_text = subst (λ (b : List ℕ). IsText b (name ++ zeros)) (sym (affix-shown (encode_utf8_all (name ++ zeros)))) (encoded (name ++ zeros) a.before_text)

  abbrev suffix_bytes : List ℕ
  suffix_bytes = text_or_nothing (suffix_with white suffix)

  scalar_parts : (list_all scalar first_gap ≡ true) × (list_all scalar suffix ≡ true)
  scalar_parts =
      let b = behind white suffix a.space a.apart a.members suffix refl in
      let gap = run-all scalar (is-run is_whitespace (behind_value white suffix)) (by suffix (sym (all-scalars (white ++ suffix)) ∙ a.behind_text)) in
      let tail = run-all scalar (is-skip (behind_value white suffix)) (by suffix (sym (all-scalars (white ++ suffix)) ∙ a.behind_text)) in
      (gap.0, rw b.1 at tail.1)
    where
      by : (cs : List ℕ) → list_all scalar (white ++ cs) ≡ true → list_all scalar (behind_value white cs) ≡ true
      by [] u = refl
      by (x ∷ cs) u = u

  end_text : IsText (set_end (behind_white suffix_bytes) ++ behind_white suffix_bytes) (end_chars suffix ++ suffix)
  end_text =
      let b = behind white suffix a.space a.apart a.members suffix refl in
      let tail : skip_leading_whitespace (chars suffix_bytes) ≡ suffix = ap skip_leading_whitespace (chars-suffix white suffix a.behind_text) ∙ b.1 in
      let text = encoded suffix (all-scalars suffix ∙ scalar_parts.1) in
      rw (tail, text.shown) (by (begins_with is_delimiter suffix) text)
    where
      by : (d : Bool) → IsText (encode_utf8_all suffix) suffix
          → IsText ((if d then en_dash_bytes ++ (en_dash_bytes ++ 32 ∷ []) else []) ++ encode_utf8_all suffix) ((if d then 8211 ∷ 8211 ∷ 32 ∷ [] else []) ++ suffix)
      by true text = join (join en_dash_text (join en_dash_text blank_text)) text
      by false text = text

  set_shown : (n : ℤ) (d : NumericDelimiter) (items : List Item) → is_readable n ≡ true → AreChained items
      → IsText (exact_text (with_affixes (name ++ zeros) white suffix (SetOf ((n, Some d) ∷ items)))) (set_text n d items)
  set_shown n d items h c =
      let white_text : IsText (leading_white suffix_bytes) first_gap = rw (chars-suffix white suffix a.behind_text) (encoded first_gap (all-scalars first_gap ∙ scalar_parts.0)) in
      let rest = join (number_text n h) (join white_text (join (spaced_text (Some d)) (items_text c end_text))) in
      let grouped = append_assoc name zeros (signed_decimal n ++ (first_gap ++ (delimiter_char d ∷ 32 ∷ exact_chars items (end_chars suffix ++ suffix)))) in
      subst (IsText (exact_text (with_affixes (name ++ zeros) white suffix (SetOf ((n, Some d) ∷ items))))) grouped (join prefix_text rest)

  -- the characters of a value with its affixes
  abbrev pub value_text : ValueView → List ℕ
  value_text (Single n) = single_text name zeros white suffix a n
  value_text (SetOf []) = []
  value_text (SetOf ((n, None) ∷ items)) = []
  value_text (SetOf ((n, Some d) ∷ items)) = set_text n d items

  pub record IsExact (v : ValueView) : Type 0 where
    pub is : IsText (exact_text (with_affixes (name ++ zeros) white suffix v)) (value_text v)
    pub read : read_from (skip_leading_whitespace (value_text v)) ≡ Ok (with_affixes (name ++ zeros) white suffix v)

  pub is_exact : (v : ValueView) → IsMade zeros suffix v → IsExact v
  is_exact (Single n) m =
      let grouped = append_assoc (text_or_nothing (affix (encode_utf8_all (name ++ zeros)))) (signed_decimal n) suffix_bytes in
      record {
        is = subst (λ (b : List ℕ). IsText b (single_text name zeros white suffix a n)) grouped (record { utf8 = single-utf8 name zeros white suffix a n m.0; shown = single-shown name zeros white suffix a n m.0 });
        read = single-read name zeros white suffix a n m.0 m.1 m.2;
      }
  is_exact (SetOf []) m = absurd m
  is_exact (SetOf (i ∷ [])) m = absurd m
  is_exact (SetOf ((n, None) ∷ j ∷ rest)) m = absurd m
  is_exact (SetOf ((n, Some d) ∷ j ∷ rest)) m =
      let both = and-both (is_readable n) (are_made (j ∷ rest)) m.1 in
      let c = are_chained (j ∷ rest) both.1 in
      record { is = set_shown n d (j ∷ rest) both.0 c; read = set_read n d (j ∷ rest) both.0 m.0 c }

-- ---- what was read

was_exact : (n : NumericView) → WasRead n → numeric_read (exact_text n) ≡ Ok n
was_exact n r =
    let e = is_exact r.name r.zeros r.white r.suffix r.affixes n.value r.made in
    subst (λ (m : NumericView). numeric_read (exact_text m) ≡ Ok m) (sym r.is)
    (ap (λ (l : List ℕ). read_from (skip_leading_whitespace l)) e.is.shown ∙ e.read)

pub exact_back : (text : List ℕ) (n : NumericView) → IsUtf8 text → numeric_read text ≡ Ok n → numeric_read (exact_text n) ≡ Ok n
exact_back text n u e = was_exact n (was_read (chars text) n (scalars-chars text u) ((is-read (chars text)).ok n e))
