-- Places in a scalar where the text may be cut.
use Rattle.std.proofs.Common.{◌≡◌, ℕ, suc, ◌+◌, ◌<◌, List, [], ◌∷◌, length, drop, get_or, Bool, true, false, cond, ◌==◌, ◌&&◌, if◌then◌else◌, Option, Some, None, refl, sym, ap, subst, ◌∙◌, length-drop, arith}
use Rattle.std.specs.Prelude.{⊤, ◌≤◌, ◌-◌, ◌*◌, nat_lt}
use Rattle.std.specs.Str.{IsUtf8, IsCharBoundary}
use Rattle.std.proofs.lemmas.List.{get_or-drop}
use Rattle.std.proofs.lemmas.Str.{IsCharBoundary-end, IsCharBoundary-before_ascii, IsCharBoundary-after_ascii}
use Rattle.haya_yaml_text.specs.Escapes.{character, digit, escape, escape_if, hex2, hex4, hex8, is_character, is_low, is_high, joined, low_escape, pair, short, unicode_if}
use Rattle.haya_yaml_text.specs.Scalars.{double_sign, if_lines, sign_of}
use Rattle.haya_yaml_text.specs.Signs.{begins_with}
use Rattle.haya_yaml_text.proofs.Steps.{or_left}
use Rattle.haya_yaml_text.specs.Turns.{goes_on, is_ordinary, plain_length, run}
use Rattle.haya_yaml_text.specs.declared.scalar.Style.{Style}
use Rattle.haya_yaml_text.specs.declared.scalar.Style.TheVariants.{Plain, PlainInBrackets, SingleQuoted, DoubleQuoted}
use Rattle.haya_yaml_text.specs.declared.sign.Sign.{Sign}
use Rattle.haya_yaml_text.specs.declared.sign.Sign.TheVariants.{Ends, Closes, Wrong, Stands, Joins, Means}

-- a sign of ASCII stands at this place
pub record AsciiAt (n : ℕ) (text : List ℕ) : Type 0 where
  pub within : n < length text
  pub small : get_or text n 0 < 128

pub more : (c n : ℕ) (cs : List ℕ) → AsciiAt n cs → AsciiAt (suc n) (c ∷ cs)
more c n cs a = record { within = grind (arith, a.within); small = a.small }

pub dropped : (k n m : ℕ) (cs : List ℕ) → k + n ≡ m → AsciiAt n (drop k cs) → AsciiAt m cs
dropped k n m cs e a = record {
  within = omega (arith, a.within, length-drop k cs, e);
  small = let is : get_or (drop k cs) n 0 ≡ get_or cs m 0 = get_or-drop k cs n 0 ∙ ap (λ i. get_or cs i 0) e in omega (arith, is, a.small);
}

-- the last sign of what means a character, of a line end that is taken away, or of a quote that closes
abbrev pub IsLast : Sign → List ℕ → Type 0
IsLast Ends text = ⊤
IsLast Closes text = AsciiAt 0 text
IsLast Wrong text = ⊤
IsLast Stands text = ⊤
IsLast Joins text = AsciiAt 1 text
IsLast (Means x n) text = AsciiAt n text

low_some : (base : ℕ) (high low : Option ℕ) (v : ℕ) → joined base high low ≡ Some v → (w : ℕ) × (low ≡ Some w)
low_some base None low v e = absurd (grind (arith, e))
low_some base (Some h) None v e = absurd (grind (arith, e))
low_some base (Some h) (Some l) v e = (l, refl)

digit_small : (c v : ℕ) → digit c ≡ Some v → c < 128
digit_small c v e = grind (arith, e)

hex2_last : (cs : List ℕ) (v : ℕ) → hex2 cs ≡ Some v → AsciiAt 1 cs
hex2_last [] v e = absurd (grind (arith, e))
hex2_last (c ∷ []) v e = absurd (grind (arith, e))
hex2_last (c ∷ d ∷ cs) v e = let low = low_some 16 (digit c) (digit d) v e in record { within = grind arith; small = digit_small d low.0 low.1 }

hex4_last : (cs : List ℕ) (v : ℕ) → hex4 cs ≡ Some v → AsciiAt 3 cs
hex4_last cs v e = let low = low_some 256 (hex2 cs) (hex2 (drop 2 cs)) v e in dropped 2 1 3 cs refl (hex2_last (drop 2 cs) low.0 low.1)

hex8_last : (cs : List ℕ) (v : ℕ) → hex8 cs ≡ Some v → AsciiAt 7 cs
hex8_last cs v e = let low = low_some 65536 (hex4 cs) (hex4 (drop 4 cs)) v e in dropped 4 3 7 cs refl (hex4_last (drop 4 cs) low.0 low.1)

character_if : (count n : ℕ) (text : List ℕ) (b : Bool) → AsciiAt count text → IsLast (if b then Means n count else Wrong) text
character_if count n text true a = a
character_if count n text false a = tt

character_last : (count : ℕ) (code : Option ℕ) (text : List ℕ) → ((v : ℕ) → code ≡ Some v → AsciiAt count text) → IsLast (character count code) text
character_last count None text a = tt
character_last count (Some n) text a = character_if count n text (is_character n) (a n refl)

pair_last : (high : ℕ) (low : Option ℕ) (text : List ℕ) → ((v : ℕ) → low ≡ Some v → AsciiAt 11 text) → IsLast (pair high low) text
pair_last high None text a = tt
pair_last high (Some low) text a = pair_if high low text (is_low low) (a low refl)
  where
    pair_if : (high low : ℕ) (text : List ℕ) (b : Bool) → AsciiAt 11 text → IsLast (if b then Means (65536 + (high - 55296) * 1024 + (low - 56320)) 11 else Wrong) text
    pair_if high low text true a = a
    pair_if high low text false a = tt

low_if : (cs : List ℕ) (b : Bool) (v : ℕ) → (if b then hex4 cs else None) ≡ Some v → AsciiAt 3 cs
low_if cs true v e = hex4_last cs v e
low_if cs false v e = absurd (grind (arith, e))

low_last : (cs : List ℕ) (v : ℕ) → low_escape cs ≡ Some v → AsciiAt 5 cs
low_last [] v e = absurd (grind (arith, e))
low_last (c ∷ []) v e = absurd (grind (arith, e))
low_last (c ∷ d ∷ cs) v e = more c 4 (d ∷ cs) (more d 3 cs (low_if cs ((c == 92) && (d == 117)) v e))

unicode_high : (n : ℕ) (cs : List ℕ) (b : Bool) → AsciiAt 3 cs → IsLast (if b then pair n (low_escape (drop 4 cs)) else character 5 (Some n)) (92 ∷ 117 ∷ cs)
unicode_high n cs true a =
    pair_last n (low_escape (drop 4 cs)) (92 ∷ 117 ∷ cs) (λ v e. more 92 10 (117 ∷ cs) (more 117 9 cs (dropped 4 5 9 cs refl (low_last (drop 4 cs) v e))))
unicode_high n cs false a = character_last 5 (Some n) (92 ∷ 117 ∷ cs) (λ v e. more 92 4 (117 ∷ cs) (more 117 3 cs a))

unicode_last : (cs : List ℕ) (code : Option ℕ) → hex4 cs ≡ code → IsLast (unicode_if cs code) (92 ∷ 117 ∷ cs)
unicode_last cs None e = tt
unicode_last cs (Some n) e = unicode_high n cs (is_high n) (hex4_last cs n e)

long_if : (c : ℕ) (cs : List ℕ) (x u l : Bool) → (c == 120) ≡ x → (c == 117) ≡ u → (c == 85) ≡ l
    → IsLast (if x then character 3 (hex2 cs) else if u then unicode_if cs (hex4 cs) else if l then character 9 (hex8 cs) else Wrong) (92 ∷ c ∷ cs)
long_if c cs true u l ex eu el = character_last 3 (hex2 cs) (92 ∷ c ∷ cs) (λ v e. more 92 2 (c ∷ cs) (more c 1 cs (hex2_last cs v e)))
long_if c cs false true l ex eu el = let is : c ≡ 117 = grind (arith, eu) in rw is (unicode_last cs (hex4 cs) refl)
long_if c cs false false true ex eu el = character_last 9 (hex8 cs) (92 ∷ c ∷ cs) (λ v e. more 92 8 (c ∷ cs) (more c 7 cs (hex8_last cs v e)))
long_if c cs false false false ex eu el = tt

short_small : (c x : ℕ) → short c ≡ Some x → c < 128
short_small c x e = grind (arith, e)

escape_short : (c : ℕ) (cs : List ℕ) (code : Option ℕ) → short c ≡ code → IsLast (escape_if code c cs) (92 ∷ c ∷ cs)
escape_short c cs None e = long_if c cs (c == 120) (c == 117) (c == 85) refl refl refl
escape_short c cs (Some x) e = record { within = grind arith; small = short_small c x e }

escape_feed : (c : ℕ) (cs : List ℕ) (b : Bool) → (c == 10) ≡ b → IsLast (if b then Joins else escape_if (short c) c cs) (92 ∷ c ∷ cs)
escape_feed c cs true e = record { within = grind arith; small = grind (arith, e) }
escape_feed c cs false e = escape_short c cs (short c) refl

escape_last : (cs : List ℕ) → IsLast (escape cs) (92 ∷ cs)
escape_last [] = tt
escape_last (c ∷ cs) = escape_feed c cs (c == 10) refl

double_if : (c : ℕ) (cs : List ℕ) (q s : Bool) → (c == 34) ≡ q → (c == 92) ≡ s → IsLast (if q then Closes else if s then escape cs else Stands) (c ∷ cs)
double_if c cs true s eq es = record { within = grind arith; small = grind (arith, eq) }
double_if c cs false true eq es = let is : c ≡ 92 = grind (arith, es) in rw is (escape_last cs)
double_if c cs false false eq es = tt

lines_last : (lines : Bool) (s : Sign) (text : List ℕ) → IsLast s text → IsLast (if_lines lines s) text
lines_last lines Ends text a = a
lines_last lines Closes text a = a
lines_last lines Wrong text a = a
lines_last lines Stands text a = a
lines_last true Joins text a = a
lines_last false Joins text a = tt
lines_last lines (Means x n) text a = a

plain_last : (flow apart : Bool) (text : List ℕ) (b : Bool) → IsLast (if b then Ends else Stands) text
plain_last flow apart text true = tt
plain_last flow apart text false = tt

single_if : (c : ℕ) (cs : List ℕ) (q two : Bool) → (c == 39) ≡ q → begins_with 39 cs ≡ two → IsLast (if q then (if two then Means 39 1 else Closes) else Stands) (c ∷ cs)
single_if c [] true true eq et = absurd (grind (arith, et))
single_if c (d ∷ cs) true true eq et = record { within = grind arith; small = grind (arith, et) }
single_if c cs true false eq et = record { within = grind arith; small = grind (arith, eq) }
single_if c cs false two eq et = tt

pub sign_last : (lines : Bool) (style : Style) (apart : Bool) (c : ℕ) (cs : List ℕ) → IsLast (sign_of lines style apart (c ∷ cs)) (c ∷ cs)
sign_last lines Plain apart c cs = plain_last false apart (c ∷ cs) _
sign_last lines PlainInBrackets apart c cs = plain_last true apart (c ∷ cs) _
sign_last lines SingleQuoted apart c cs = single_if c cs (c == 39) (begins_with 39 cs) refl refl
sign_last lines DoubleQuoted apart c cs = lines_last lines (double_sign (c ∷ cs)) (c ∷ cs) (double_if c cs (c == 34) (c == 92) refl refl)

pub sign_is_last : (lines : Bool) (style : Style) (apart : Bool) (text : List ℕ) (s : Sign) → 0 < length text → sign_of lines style apart text ≡ s → IsLast s text
sign_is_last lines style apart [] s some e = absurd (grind (arith, some))
sign_is_last lines style apart (c ∷ cs) s some e = rw (← e) (sign_last lines style apart c cs)

-- a text may be cut behind such a sign
pub behind_sign : (n : ℕ) (text : List ℕ) → IsUtf8 text → AsciiAt n text → IsCharBoundary text (n + 1)
behind_sign n text utf8 a = IsCharBoundary-after_ascii text n utf8 a.within a.small

special_small : (style : Style) (c : ℕ) → is_ordinary style c ≡ false → c < 128
special_small Plain c e = grind (arith, e)
special_small PlainInBrackets c e = grind (arith, e)
special_small SingleQuoted c e = grind (arith, e)
special_small DoubleQuoted c e = grind (arith, e)

-- what ends signs that stand for themselves is of ASCII
stop_if : (style : Style) (c : ℕ) (cs : List ℕ) (b : Bool) → goes_on style (c ∷ cs) ≡ b → (plain_length style cs < length cs → get_or cs (plain_length style cs) 0 < 128)
    → cond b (suc (plain_length style cs)) 0 < length (c ∷ cs) → get_or (c ∷ cs) (cond b (suc (plain_length style cs)) 0) 0 < 128
stop_if style c cs true is more within = more (grind (arith, within))
stop_if style c [] false is more within = special_small style c is
stop_if style c (d ∷ cs) false is more within = special_small style c (or_left (is_ordinary style c) _ is)

stop_small : (style : Style) (text : List ℕ) → plain_length style text < length text → get_or text (plain_length style text) 0 < 128
unfolding plain_length
stop_small style [] within = absurd (grind (arith, within))
stop_small style (c ∷ cs) within = stop_if style c cs (goes_on style (c ∷ cs)) refl (stop_small style cs) within

most_if : (style : Style) (c : ℕ) (cs : List ℕ) (b : Bool) → plain_length style cs ≤ length cs → cond b (suc (plain_length style cs)) 0 ≤ length (c ∷ cs)
most_if style c cs true most = grind (arith, most)
most_if style c cs false most = grind arith

most : (style : Style) (text : List ℕ) → plain_length style text ≤ length text
unfolding plain_length
most style [] = grind arith
most style (c ∷ cs) = most_if style c cs (goes_on style (c ∷ cs)) (most style cs)

-- and behind signs that stand for themselves
run_cut : (style : Style) (text : List ℕ) (b : Bool) → nat_lt (run style text) (length text) ≡ b → 0 < length text → IsCharBoundary text (run style text)
run_cut style [] b e some = absurd (grind (arith, some))
run_cut style (c ∷ cs) true e some =
    let n = plain_length style cs in
    let within : n < length cs = grind (arith, e) in
    IsCharBoundary-before_ascii (c ∷ cs) (suc n) (grind (arith, e)) (stop_small style cs within)
run_cut style (c ∷ cs) false e some =
    let bound = most style cs in
    let all : suc (plain_length style cs) ≡ length (c ∷ cs) = grind (arith, e, bound) in
    subst (IsCharBoundary (c ∷ cs)) (sym all) (IsCharBoundary-end (c ∷ cs))

pub behind_run : (style : Style) (text : List ℕ) → 0 < length text → IsCharBoundary text (run style text)
behind_run style text some = run_cut style text (nat_lt (run style text) (length text)) refl some

-- and before the first sign that doesn't, where the text goes on
plain_cut : (style : Style) (text : List ℕ) (b : Bool) → nat_lt (plain_length style text) (length text) ≡ b → IsCharBoundary text (plain_length style text)
plain_cut style text true e =
    let within : plain_length style text < length text = grind (arith, e) in
    IsCharBoundary-before_ascii text (plain_length style text) within (stop_small style text within)
plain_cut style text false e =
    let bound = most style text in
    let all : plain_length style text ≡ length text = grind (arith, e, bound) in
    subst (IsCharBoundary text) (sym all) (IsCharBoundary-end text)

pub behind_plain : (style : Style) (text : List ℕ) → IsCharBoundary text (plain_length style text)
behind_plain style text = plain_cut style text (nat_lt (plain_length style text) (length text)) refl
