-- Dates are read back from their printed text.
use Rattle.std.proofs.Common.{◌≡◌, ℕ, ◌+◌, ◌-◌, ◌^◌, ◌<◌, ◌≤◌, Bool, true, false, ◌||◌, cond, eqb, List, [], ◌∷◌, ◌++◌, refl, ap, sym, ◌∙◌, subst, arith, append_assoc, Option, Some, None, Ok, ℤ, pos, negsuc}
use Rattle.std.proofs.lemmas.Bool.Decides.{nat_tests}
use Rattle.std.proofs.lemmas.List.{append-nil}
use Rattle.std.proofs.lemmas.Str.Ascii.{IsAscii-cons, IsAscii-nil}
use Rattle.std.proofs.lemmas.Str.{chars-IsAscii, IsAscii-append}
use Rattle.std.specs.Prelude.{nat_le, nat_lt, unsigned_abs}
use Rattle.std.specs.Int.{is_negative}
use Rattle.std.specs.Str.{IsAscii, chars}
use Rattle.haya_text.proofs.Tells.{and-both}
use Rattle.haya_time.specs.declared.date.Date.{Date}
use Rattle.haya_time.specs.DateCalendar.{is_leap_year, days_of_month, is_month, has_day}
use Rattle.haya_time.specs.DateForms.{HasMark, marked, unmarked, HasSign, minus, unsigned, BeginsWithNumber, Opening, OpensWith, BeginsWithPart, with_sign, ReadsAs, year, month, day}
use Rattle.haya_time.specs.DatePrinted.{mark_text, year_digits, part_text, parts_text, date_text}
use Rattle.haya_time.specs.DateReadBack.{is_on_calendar, ReadsBack}
use Rattle.haya_time.specs.DateReading.{date_read}
use Rattle.haya_text.specs.Characters.{begins_with, is_numeric, hyphen}
use Rattle.haya_time.specs.DateText.{tilde}
use Rattle.haya_time.specs.Padded.{padded_decimal}
use Rattle.haya_text.proofs.Numerics.{hyphen-numeric}
use Rattle.haya_time.proofs.DateReadings.{reads-read}
use Rattle.haya_time.proofs.PrintedParts.{IsAscii-if, IsAscii-padded, all_ascii_digits-from, printed, printed-exact}
use Rattle.haya_time.proofs.TextFronts.{begins-itself}

-- ---- the parts of a printed date

padded-number : (width n : ℕ) (rest : List ℕ) → 0 < width → n < 10 ^ width → n < 2 ^ 64 → begins_with is_numeric rest ≡ false → BeginsWithNumber (padded_decimal width n ++ rest) width n rest
padded-number width n rest some short small stops =
    let p = printed width n small in
    record {
      digits = padded_decimal width n;
      stands = begins-itself (padded_decimal width n) rest;
      ascii = all_ascii_digits-from (padded_decimal width n) p.digits;
      whole = stops;
      counted = printed-exact width n some short small;
      valued = p.value;
    }

mark-text : (c : ℕ) (b : Bool) (rest : List ℕ) → HasMark c (mark_text b c ++ rest) b rest
mark-text c true rest = marked (begins-itself (c ∷ []) rest)
mark-text c false rest = unmarked

sign-text : (negative : Bool) (rest : List ℕ) → HasSign (mark_text negative hyphen ++ rest) negative rest
sign-text true rest = minus (begins-itself (hyphen ∷ []) rest)
sign-text false rest = unsigned

year-sign : (y : ℤ) → with_sign (is_negative y) (unsigned_abs y) ≡ y
year-sign (pos n) = let t : nat_lt n 0 ≡ false = grind (arith, nat_tests) in rw t refl
year-sign (negsuc n) = refl

-- the text without the mark's and the sign's parentheses
abbrev opening_text : Bool → ℤ → List ℕ → List ℕ
opening_text approximate y rest = mark_text approximate tilde ++ (mark_text (is_negative y) hyphen ++ (padded_decimal 4 (unsigned_abs y) ++ rest))

abbrev opening_of : Bool → ℤ → List ℕ → Opening
opening_of approximate y rest = record { approximate = approximate; count = 4; year = y; rest = rest }

opening-text : (approximate : Bool) (y : ℤ) (rest : List ℕ) → unsigned_abs y ≤ 9999 → begins_with is_numeric rest ≡ false → OpensWith (opening_text approximate y rest) (opening_of approximate y rest)
opening-text approximate y rest near stops = record {
  unmarked = mark_text (is_negative y) hyphen ++ (padded_decimal 4 (unsigned_abs y) ++ rest);
  unsigned = padded_decimal 4 (unsigned_abs y) ++ rest;
  negative = is_negative y;
  value = unsigned_abs y;
  mark = mark-text tilde approximate _;
  sign = sign-text (is_negative y) _;
  number = padded-number 4 (unsigned_abs y) rest (omega arith) (omega arith) (omega arith) stops;
  named = ap (λ v. Some v) (year-sign y);
}

part-text : (n : ℕ) (rest : List ℕ) → n + 1 < 100 → begins_with is_numeric rest ≡ false → BeginsWithPart (part_text n ++ rest) (n + 1) rest
part-text n rest short stops = record {
  after = padded_decimal 2 (n + 1) ++ rest;
  count = 2;
  joint = begins-itself (hyphen ∷ []) _;
  number = padded-number 2 (n + 1) rest (omega arith) (omega arith) (omega arith) stops;
  low = omega arith;
  high = omega arith;
}

parts-stop : (m d : Option ℕ) → begins_with is_numeric (parts_text m d) ≡ false
parts-stop None d = refl
parts-stop (Some m) None = hyphen-numeric
parts-stop (Some m) (Some d) = hyphen-numeric

month-low : (m : ℕ) → is_month m ≡ true → m ≤ 12
month-low m h = let p = and-both (nat_le 1 m) (nat_le m 12) h in let q = p.1 in grind (arith, nat_tests)

days-low : (y : ℤ) (m : ℕ) → days_of_month y m ≤ 31
days-low y m = by_tests (eqb m 2) (is_leap_year y) (eqb m 4 || eqb m 6 || eqb m 9 || eqb m 11)
  where
    by_tests : (a b c : Bool) → cond a (cond b 29 28) (cond c 30 31) ≤ 31
    by_tests true true c = omega arith
    by_tests true false c = omega arith
    by_tests false b true = omega arith
    by_tests false b false = omega arith

day-low : (y : ℤ) (m d : ℕ) → has_day y m d ≡ true → d ≤ 31
day-low y m d h =
    let p = and-both (nat_le 1 d) (nat_le d (days_of_month y m)) h in
    let q = p.1 in
    let low = days-low y m in
    let r : d ≤ days_of_month y m = grind (arith, nat_tests) in
    omega arith

less_one : (n : ℕ) → n + 1 - 1 ≡ n
less_one n = omega arith

printed-reads : (y : ℤ) (m d : Option ℕ) (approximate : Bool) → unsigned_abs y ≤ 9999 → is_on_calendar y m d ≡ true
    → ReadsAs (opening_text approximate y (parts_text m d)) (record { year = y; month = m; day = d; approximate = approximate; season = None })
printed-reads y None None approximate near good = year (opening-text approximate y [] near refl) refl refl
printed-reads y None (Some d) approximate near good = cc
printed-reads y (Some m) None approximate near good =
    let low = month-low (m + 1) good in
    let part = subst (λ t. BeginsWithPart t (m + 1) []) (append-nil (part_text m)) (part-text m [] (omega arith) refl) in
    let read = month (opening-text approximate y (part_text m) near (parts-stop (Some m) None)) refl part good refl in
    rw less_one at read
printed-reads y (Some m) (Some d) approximate near good =
    let both = and-both (is_month (m + 1)) (has_day y (m + 1) (d + 1)) good in
    let low = month-low (m + 1) both.0 in
    let low_day = day-low y (m + 1) (d + 1) both.1 in
    let first = part-text m (part_text d) (omega arith) (parts-stop (Some d) None) in
    let second = subst (λ t. BeginsWithPart t (d + 1) []) (append-nil (part_text d)) (part-text d [] (omega arith) refl) in
    let read = day (opening-text approximate y (parts_text (Some m) (Some d)) near (parts-stop (Some m) (Some d))) first both.0 second both.1 refl in
    rw (less_one m, less_one d) at read

-- ---- the bytes of a printed date are its characters

ascii_mark : (b : Bool) (c : ℕ) → c < 128 → IsAscii (mark_text b c)
ascii_mark b c h = IsAscii-if b (c ∷ []) (IsAscii-cons c [] h IsAscii-nil)

ascii_part : (n : ℕ) → n + 1 < 100 → IsAscii (part_text n)
ascii_part n short = IsAscii-append (hyphen ∷ []) (padded_decimal 2 (n + 1)) (IsAscii-cons hyphen [] (omega arith) IsAscii-nil) (IsAscii-padded 2 (n + 1) (omega arith))

ascii_parts : (y : ℤ) (m d : Option ℕ) → is_on_calendar y m d ≡ true → IsAscii (parts_text m d)
ascii_parts y None d good = IsAscii-nil
ascii_parts y (Some m) None good = let low = month-low (m + 1) good in ascii_part m (omega arith)
ascii_parts y (Some m) (Some d) good =
    let both = and-both (is_month (m + 1)) (has_day y (m + 1) (d + 1)) good in
    let low = month-low (m + 1) both.0 in
    let low_day = day-low y (m + 1) (d + 1) both.1 in
    IsAscii-append (part_text m) (part_text d) (ascii_part m (omega arith)) (ascii_part d (omega arith))

ascii_date : (d : Date) → ReadsBack d → IsAscii (date_text d)
ascii_date d r =
    let near = r.year in
    IsAscii-append (mark_text d.approximate tilde) (year_digits d.year ++ parts_text d.month d.day) (ascii_mark d.approximate tilde (omega arith))
    (IsAscii-append (year_digits d.year) (parts_text d.month d.day)
    (IsAscii-append (mark_text (is_negative d.year) hyphen) (padded_decimal 4 (unsigned_abs d.year)) (ascii_mark (is_negative d.year) hyphen (omega arith)) (IsAscii-padded 4 (unsigned_abs d.year) (omega arith)))
    (ascii_parts d.year d.month d.day r.day))

pub back : (d : Date) → ReadsBack d → date_read (chars (date_text d)) ≡ Ok d
back d r =
    let regrouped : date_text d ≡ opening_text d.approximate d.year (parts_text d.month d.day) =
    ap (λ t. mark_text d.approximate tilde ++ t) (append_assoc (mark_text (is_negative d.year) hyphen) (padded_decimal 4 (unsigned_abs d.year)) (parts_text d.month d.day)) in
    ap date_read (chars-IsAscii (date_text d) (ascii_date d r) ∙ regrouped)
    ∙ reads-read _ _ (printed-reads d.year d.month d.day d.approximate r.year r.day)
    ∙ ap (λ s. Ok (record d { season = s })) (sym r.season)
