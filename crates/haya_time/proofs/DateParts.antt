-- The parts of a date's text, as they stand and as they are read.
use Rattle.std.proofs.Common.{◌≡◌, ℕ, ◌<◌, ◌≤◌, Bool, true, false, ◌&&◌, List, [], ◌∷◌, ◌++◌, length, refl, ap, sym, ◌∙◌, arith, Option, Some, None, cond, eqb, eqb-true, subst, ℤ, ◌⊎◌, inl, inr}
use Rattle.std.proofs.lemmas.Bool.Decides.{nat_tests}
use Rattle.std.specs.Prelude.{nat_le}
use Rattle.std.specs.Char.{is_ascii_digit, is_whitespace}
use Rattle.std.specs.List.{list_all}
use Rattle.std.specs.Str.{all_ascii_digits, skip_leading_whitespace}
use Rattle.std.specs.Str.Parse.{digits_value}
use Rattle.haya_text.proofs.Tells.{and-both, both-and}
use Rattle.haya_time.specs.DateForms.{HasMark, marked, unmarked, HasSign, minus, plus, unsigned, BeginsWithNumber, Opening, OpensWith, BeginsWithPart, calendar_year, with_sign}
use Rattle.haya_time.specs.DateReading.{number_of, Number, number_before, number_at, mark_of, mark_at, sign_by, sign_at, opening_with, opening_by, opening_after_sign, opening_after_mark, opening_at, part_by, part_behind, part_at}
use Rattle.haya_text.specs.Characters.{begins_with, hyphen, run, behind_run, is_numeric}
use Rattle.haya_time.specs.DateText.{plus_sign, tilde}
use Rattle.haya_time.specs.TextFront.{BeginsWith, IsBlank, behind, behind_first}
use Rattle.haya_text.proofs.Numerics.{digit_low, digit_high, digit-numeric, run-behind_run, behind_run-stops, run-of, behind_run-of}
use Rattle.haya_time.proofs.TextFronts.{begins, begins-behind, begins-skip, behind-begins, blank-skipped, digit-no_space}

-- ---- one character

-- the text begins with a character from low to 9, perhaps behind white space
record Starts (low : ℕ) (text : List ℕ) : Type 0 where
  first : ℕ
  later : List ℕ
  skipped : skip_leading_whitespace text ≡ first ∷ later
  above : low ≤ first
  below : first ≤ 57

none-behind_first : (c x : ℕ) (rest : List ℕ) → eqb x c ≡ false → behind_first c (x ∷ rest) ≡ None
none-behind_first c x rest t = rw t refl

starts-behind : (c low : ℕ) (text : List ℕ) → Starts low text → (c < low) ⊎ (57 < c) → behind c text ≡ None
starts-behind c low text s (inl h) =
    let above = s.above in
    let t : eqb s.first c ≡ false = grind (arith, nat_tests) in
    ap (behind_first c) s.skipped ∙ none-behind_first c s.first s.later t
starts-behind c low text s (inr h) =
    let below = s.below in
    let t : eqb s.first c ≡ false = grind (arith, nat_tests) in
    ap (behind_first c) s.skipped ∙ none-behind_first c s.first s.later t

-- ---- numbers

digits-numeric : (ds : List ℕ) → all_ascii_digits ds ≡ true → list_all is_numeric ds ≡ true
digits-numeric [] a = refl
digits-numeric (d ∷ ds) a =
    let p = and-both (is_ascii_digit d) (all_ascii_digits ds) a in
    both-and (is_numeric d) (list_all is_numeric ds) (digit-numeric d p.0) (digits-numeric ds p.1)

-- what a number that was read says of its run
record Spells (cs rest : List ℕ) (n : Number) : Type 0 where
  ascii : all_ascii_digits cs ≡ true
  counted : length cs ≡ n.count
  valued : digits_value 10 cs ≡ n.value
  follows : rest ≡ n.rest

spells : (cs rest : List ℕ) (n : Number) → number_before (number_of cs) rest ≡ Some n → Spells cs rest n
spells cs rest n h = by_test (all_ascii_digits cs) refl (nat_le (length cs) 4) h
  where
    by_test : (b : Bool) → all_ascii_digits cs ≡ b → (d : Bool) → number_before (cond (b && d) (Some (length cs, digits_value 10 cs)) None) rest ≡ Some n → Spells cs rest n
    by_test true a true h =
        let same : record { count = length cs; value = digits_value 10 cs; rest = rest } ≡ n = cc in
        record { ascii = a; counted = ap (λ (m : Number). m.count) same; valued = ap (λ (m : Number). m.value) same; follows = ap (λ (m : Number). m.rest) same }
    by_test true a false h = cc
    by_test false a d h = cc

pub number-begins : (text : List ℕ) (n : Number) → number_at text ≡ Some n → BeginsWithNumber text n.count n.value n.rest
number-begins text n h =
    let front : List ℕ = skip_leading_whitespace text in
    let s = spells (run is_numeric front) (behind_run is_numeric front) n h in
    record {
      digits = run is_numeric front;
      stands = begins (run is_numeric front) text n.rest (run-behind_run is_numeric front ∙ ap (λ t. run is_numeric front ++ t) s.follows);
      ascii = s.ascii;
      whole = ap (begins_with is_numeric) (sym s.follows) ∙ behind_run-stops is_numeric front;
      counted = s.counted;
      valued = s.valued;
    }

number_of-digits : (cs : List ℕ) → all_ascii_digits cs ≡ true → length cs ≤ 4 → number_of cs ≡ Some (length cs, digits_value 10 cs)
number_of-digits cs a high = let t : nat_le (length cs) 4 ≡ true = grind (arith, nat_tests) in rw (a, t) refl

abbrev number_front : List ℕ → Option Number
number_front front = number_before (number_of (run is_numeric front)) (behind_run is_numeric front)

digits-number : (digits text rest : List ℕ) → all_ascii_digits digits ≡ true → begins_with is_numeric rest ≡ false → 1 ≤ length digits → length digits ≤ 4 → BeginsWith digits text rest
    → number_at text ≡ Some (record { count = length digits; value = digits_value 10 digits; rest = rest })
digits-number [] text rest a r low high b = absurd (omega arith)
digits-number (d ∷ ds) text rest a r low high b =
    let p = and-both (is_ascii_digit d) (all_ascii_digits ds) a in
    let skipped = begins-skip (d ∷ ds) text rest (digit-no_space d p.0) b in
    let numeric = digits-numeric (d ∷ ds) a in
    let front = run-of is_numeric (d ∷ ds) rest numeric r in
    let back = behind_run-of is_numeric (d ∷ ds) rest numeric r in
    ap number_front skipped ∙ (λ i. number_before (number_of (front i)) (back i)) ∙ ap (λ n. number_before n rest) (number_of-digits (d ∷ ds) a high)

pub begins-number : (text : List ℕ) (count value : ℕ) (rest : List ℕ) → BeginsWithNumber text count value rest → 1 ≤ count → count ≤ 4 → number_at text ≡ Some (record { count = count; value = value; rest = rest })
begins-number text count value rest b low high =
    let counted = b.counted in
    digits-number b.digits text rest b.ascii b.whole (omega arith) (omega arith) b.stands
    ∙ (λ i. Some (record { count = b.counted i; value = b.valued i; rest = rest }))

digits-start : (digits text rest : List ℕ) → all_ascii_digits digits ≡ true → 1 ≤ length digits → BeginsWith digits text rest → Starts 48 text
digits-start [] text rest a low b = absurd (omega arith)
digits-start (d ∷ ds) text rest a low b =
    let p = and-both (is_ascii_digit d) (all_ascii_digits ds) a in
    let above = digit_low d p.0 in
    let below = digit_high d p.0 in
    record { first = d; later = ds ++ rest; skipped = begins-skip (d ∷ ds) text rest (digit-no_space d p.0) b; above = above; below = below }

number-starts : (text : List ℕ) (count value : ℕ) (rest : List ℕ) → BeginsWithNumber text count value rest → 1 ≤ count → Starts 48 text
number-starts text count value rest b low = let counted = b.counted in digits-start b.digits text rest b.ascii (omega arith) b.stands

-- ---- signs and marks

hyphen-white : is_whitespace hyphen ≡ false
hyphen-white = refl

plus-white : is_whitespace plus_sign ≡ false
plus-white = refl

tilde-white : is_whitespace tilde ≡ false
tilde-white = refl

sign-starts : (text : List ℕ) (negative : Bool) (rest : List ℕ) → HasSign text negative rest → Starts 48 rest → Starts 43 text
sign-starts text _ rest (minus b) s = record { first = hyphen; later = rest; skipped = begins-skip (hyphen ∷ []) text rest hyphen-white b; above = omega arith; below = omega arith }
sign-starts text _ rest (plus b) s = record { first = plus_sign; later = rest; skipped = begins-skip (plus_sign ∷ []) text rest plus-white b; above = omega arith; below = omega arith }
sign-starts text _ _ unsigned s = let above = s.above in record { first = s.first; later = s.later; skipped = s.skipped; above = omega arith; below = s.below }

plus-other : (rest : List ℕ) → behind_first hyphen (plus_sign ∷ rest) ≡ None
plus-other rest = refl

sign-at : (text : List ℕ) (negative : Bool) (rest : List ℕ) → HasSign text negative rest → Starts 48 rest → sign_at text ≡ (negative, rest)
sign-at text _ rest (minus b) s = ap (λ p. sign_by text p (behind plus_sign text)) (begins-behind hyphen text rest hyphen-white b)
sign-at text _ rest (plus b) s =
    let none : behind hyphen text ≡ None = ap (behind_first hyphen) (begins-skip (plus_sign ∷ []) text rest plus-white b) ∙ plus-other rest in
    let some = begins-behind plus_sign text rest plus-white b in
    (λ i. sign_by text (none i) (some i))
sign-at text _ _ unsigned s =
    let none = starts-behind hyphen 48 text s (inl (omega arith)) in
    let neither = starts-behind plus_sign 48 text s (inl (omega arith)) in
    (λ i. sign_by text (none i) (neither i))

at-sign : (text : List ℕ) → HasSign text (sign_at text).0 (sign_at text).1
at-sign text = by_signs (behind hyphen text) refl (behind plus_sign text) refl
  where
    by_signs : (p : Option (List ℕ)) → behind hyphen text ≡ p → (q : Option (List ℕ)) → behind plus_sign text ≡ q → HasSign text (sign_by text p q).0 (sign_by text p q).1
    by_signs (Some rest) h q k = minus (behind-begins hyphen text rest h)
    by_signs None h (Some rest) k = plus (behind-begins plus_sign text rest k)
    by_signs None h None k = unsigned

mark-at : (text : List ℕ) (b : Bool) (rest : List ℕ) → HasMark tilde text b rest → Starts 43 rest → mark_at text ≡ (b, rest)
mark-at text _ rest (marked b) s = ap (mark_of text) (begins-behind tilde text rest tilde-white b)
mark-at text _ _ unmarked s = ap (mark_of text) (starts-behind tilde 43 text s (inr (omega arith)))

at-mark : (text : List ℕ) → HasMark tilde text (mark_at text).0 (mark_at text).1
at-mark text = by_mark (behind tilde text) refl
  where
    by_mark : (p : Option (List ℕ)) → behind tilde text ≡ p → HasMark tilde text (mark_of text p).0 (mark_of text p).1
    by_mark (Some rest) h = marked (behind-begins tilde text rest h)
    by_mark None h = unmarked

-- ---- what a text opens with

record InBounds (low n high : ℕ) : Type 0 where
  above : low ≤ n
  below : n ≤ high

year-count : (count : ℕ) (n y : ℤ) → calendar_year count n ≡ Some y → InBounds 1 count 4
year-count count n y h = by_count (eqb count 4) refl (eqb count 2) refl h
  where
    by_count : (a : Bool) → eqb count 4 ≡ a → (b : Bool) → eqb count 2 ≡ b → calendar_year count n ≡ Some y → InBounds 1 count 4
    by_count true e b f h = let four : count ≡ 4 = eqb-true count 4 e in record { above = omega arith; below = omega arith }
    by_count false e true f h = let two : count ≡ 2 = eqb-true count 2 f in record { above = omega arith; below = omega arith }
    by_count false e false f h = let g : None ≡ Some y = rw (e, f) at h in cc

pub opens-at : (text : List ℕ) (o : Opening) → OpensWith text o → opening_at text ≡ Some o
opens-at text o w =
    let bounds = year-count o.count _ o.year w.named in
    let digits = number-starts w.unsigned o.count w.value o.rest w.number bounds.above in
    ap opening_after_mark (mark-at text o.approximate w.unmarked w.mark (sign-starts w.unmarked w.negative w.unsigned w.sign digits))
    ∙ ap (opening_after_sign o.approximate) (sign-at w.unmarked w.negative w.unsigned w.sign digits)
    ∙ ap (opening_by o.approximate w.negative) (begins-number w.unsigned o.count w.value o.rest w.number bounds.above bounds.below)
    ∙ ap (opening_with o.approximate o.count o.rest) w.named

pub at-opens : (text : List ℕ) (o : Opening) → opening_at text ≡ Some o → OpensWith text o
at-opens text o h = by_number (number_at (sign_at (mark_at text).1).1) refl h
  where
    by_year : (n : Number) → number_at (sign_at (mark_at text).1).1 ≡ Some n → (q : Option ℤ) → calendar_year n.count (with_sign (sign_at (mark_at text).1).0 n.value) ≡ q
        → opening_with (mark_at text).0 n.count n.rest q ≡ Some o → OpensWith text o
    by_year n e None f h = cc
    by_year n e (Some y) f h =
        let same : record { approximate = (mark_at text).0; count = n.count; year = y; rest = n.rest } ≡ o = cc in
        subst (OpensWith text) same (record {
          unmarked = (mark_at text).1;
          unsigned = (sign_at (mark_at text).1).1;
          negative = (sign_at (mark_at text).1).0;
          value = n.value;
          mark = at-mark text;
          sign = at-sign (mark_at text).1;
          number = number-begins (sign_at (mark_at text).1).1 n e;
          named = f;
        })

    by_number : (p : Option Number) → number_at (sign_at (mark_at text).1).1 ≡ p → opening_by (mark_at text).0 (sign_at (mark_at text).1).0 p ≡ Some o → OpensWith text o
    by_number None e h = cc
    by_number (Some n) e h = by_year n e (calendar_year n.count (with_sign (sign_at (mark_at text).1).0 n.value)) refl h

-- ---- months and days

pub begins-part : (text : List ℕ) (n : ℕ) (rest : List ℕ) → BeginsWithPart text n rest → part_at text ≡ Some (n, rest)
begins-part text n rest b =
    let low = b.low in
    let high = b.high in
    let one : nat_le 1 b.count ≡ true = grind (arith, nat_tests) in
    let two : nat_le b.count 2 ≡ true = grind (arith, nat_tests) in
    ap part_behind (begins-behind hyphen text b.after hyphen-white b.joint)
    ∙ ap part_by (begins-number b.after b.count n rest b.number b.low (omega arith))
    ∙ ap (λ t. cond {A = Option (ℕ × List ℕ)} t (Some (n, rest)) None) (both-and (nat_le 1 b.count) (nat_le b.count 2) one two)

pub part-begins : (text : List ℕ) (n : ℕ) (rest : List ℕ) → part_at text ≡ Some (n, rest) → BeginsWithPart text n rest
part-begins text n rest h = by_hyphen (behind hyphen text) refl h
  where
    by_count : (after : List ℕ) (k : Number) → behind hyphen text ≡ Some after → number_at after ≡ Some k → (a : Bool) → nat_le 1 k.count ≡ a → (b : Bool) → nat_le k.count 2 ≡ b
        → cond {A = Option (ℕ × List ℕ)} (a && b) (Some (k.value, k.rest)) None ≡ Some (n, rest) → BeginsWithPart text n rest
    by_count after k e f true l true m h =
        let same : ◌≡◌ {A = ℕ × List ℕ} (k.value, k.rest) (n, rest) = cc in
        let r = number-begins after k f in
        subst (λ (p : ℕ × List ℕ). BeginsWithPart text p.0 p.1) same (record {
          after = after;
          count = k.count;
          joint = behind-begins hyphen text after e;
          number = r;
          low = grind (arith, nat_tests);
          high = grind (arith, nat_tests);
        })
    by_count after k e f true l false m h = cc
    by_count after k e f false l b m h = cc

    by_number : (after : List ℕ) → behind hyphen text ≡ Some after → (p : Option Number) → number_at after ≡ p → part_by p ≡ Some (n, rest) → BeginsWithPart text n rest
    by_number after e None f h = cc
    by_number after e (Some k) f h = by_count after k e f (nat_le 1 k.count) refl (nat_le k.count 2) refl h

    by_hyphen : (p : Option (List ℕ)) → behind hyphen text ≡ p → part_behind p ≡ Some (n, rest) → BeginsWithPart text n rest
    by_hyphen None e h = cc
    by_hyphen (Some after) e h = by_number after e (number_at after) refl h

pub blank-part : (text : List ℕ) → IsBlank text → part_at text ≡ None
blank-part text h = ap (λ t. part_behind (behind_first hyphen t)) (blank-skipped text h)
