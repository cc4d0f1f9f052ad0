-- Printed durations and ranges read as what they were.
use Rattle.std.proofs.Common.{◌≡◌, ℕ, ◌+◌, ◌*◌, ◌/◌, ◌%◌, ◌^◌, ◌<◌, ◌==◌, inl, inr, nat_lt, Bool, true, false, ◌&&◌, ◌||◌, not, cond, List, [], ◌∷◌, ◌++◌, length, refl, ap, sym, subst, ◌∙◌, arith, append_assoc, Ok}
use Rattle.std.proofs.lemmas.Bool.Decides.{nat_tests}
use Rattle.std.proofs.lemmas.Fmt.{IsAscii-decimal, decimal_is_IsNumeral}
use Rattle.std.proofs.lemmas.List.{append-nil}
use Rattle.std.proofs.lemmas.Str.Ascii.{IsAscii-cons, IsAscii-nil}
use Rattle.std.proofs.lemmas.List.Sums.{sum_by-cons}
use Rattle.std.proofs.lemmas.Str.{chars-IsAscii, IsAscii-append}
use Rattle.ucd_category.proofs.Computing.{ucd_category}
use Rattle.std.specs.Char.{is_ascii_digit}
use Rattle.std.specs.Fmt.{decimal}
use Rattle.std.specs.List.{list_all}
use Rattle.std.specs.Str.{IsAscii, chars}
use Rattle.haya_time.specs.declared.duration.Duration.{Duration}
use Rattle.haya_time.specs.declared.duration.range.DurationRange.{DurationRange}
use Rattle.haya_text.specs.Characters.{comma, hyphen, run, is_numeric, begins_with}
use Rattle.haya_time.specs.DurationText.{colon, number, colons}
use Rattle.haya_time.specs.DurationBack.{reads_back, range_reads_back}
use Rattle.haya_time.specs.DurationPrint.{days_text, hours_text, fraction_text, duration_text, same_duration, range_text}
use Rattle.haya_time.specs.DurationReading.{duration_read, range_read}
use Rattle.haya_time.specs.DurationValues.{clock, from_hours, from_minutes, milliseconds, is_too_large}
use Rattle.haya_time.specs.DurationGrammar.{IsNumber, IsValue, IsClock, IsFraction, IsDuration, ReadsAs, IsStart, HasTwoTexts, ReadsAsRange}
use Rattle.haya_text.proofs.Tells.{and-both}
use Rattle.haya_time.proofs.DurationLaws.{as-reads, as-range-reads}
use Rattle.haya_time.specs.Padded.{padded_decimal}
use Rattle.haya_text.proofs.Numerics.{hyphen-numeric}
use Rattle.haya_time.proofs.PrintedParts.{IsAscii-if, IsAscii-padded, digits_model, printed, printed-exact}
use Rattle.haya_time.proofs.TextFronts.{begins-itself}

-- colons and numeric characters

colons-digits : (ds rest : List ℕ) → list_all is_ascii_digit ds ≡ true → colons (ds ++ rest) ≡ colons rest
colons-digits [] rest h = refl
colons-digits (c ∷ cs) rest h =
    let p = and-both (is_ascii_digit c) (list_all is_ascii_digit cs) h in
    let a : (c == hyphen) ≡ false = grind (arith, nat_tests) in
    let b : (c == colon) ≡ false = grind (arith, nat_tests) in
    rw (a, b) (colons-digits cs rest p.1)

colons-colon : (rest : List ℕ) → colons (colon ∷ rest) ≡ 1 + colons rest
colons-colon rest = sum_by-cons (λ c. cond (c == colon) 1 0) colon (run (λ c. not (c == hyphen)) rest)

colons-comma : (rest : List ℕ) → colons (comma ∷ rest) ≡ colons rest
colons-comma rest = refl

colons-hyphen : (rest : List ℕ) → colons (hyphen ∷ rest) ≡ 0
colons-hyphen rest = refl

colon-no_number : is_numeric colon ≡ false
unfolding ucd_category
colon-no_number = refl

comma-no_number : is_numeric comma ≡ false
unfolding ucd_category
comma-no_number = refl

-- the parts of a printed text

no_sign : (c : ℕ) (rest : List ℕ) → is_numeric c ≡ false → begins_with is_numeric (c ∷ rest) ≡ false
no_sign c rest h = h

number-back : (ds rest : List ℕ) → list_all is_ascii_digit ds ≡ true → 0 < length ds → begins_with is_numeric rest ≡ false → IsNumber (ds ++ rest) ds rest
number-back ds rest h some stop = record { stands = begins-itself ds rest; some = some; ascii = h; whole = stop }

value-back : (text ds tail : List ℕ) → text ≡ ds ++ colon ∷ tail → list_all is_ascii_digit ds ≡ true → 0 < length ds → IsValue text ds tail
value-back text ds tail e h some =
    let n : IsNumber text ds (colon ∷ tail) = rw (sym e) at (number-back ds (colon ∷ tail) h some colon-no_number) in
    record { rest = colon ∷ tail; number = n; sign = begins-itself (colon ∷ []) tail }

-- what stands behind the values
pub record Ends (rest : List ℕ) : Type 0 where
  pub no_colons : colons rest ≡ 0
  pub no_number : begins_with is_numeric rest ≡ false

minutes-colons : (m s : ℕ) (rest : List ℕ) → m < 60 → s < 60 → Ends rest → colons (padded_decimal 2 m ++ colon ∷ (padded_decimal 2 s ++ rest)) ≡ 1
minutes-colons m s rest a b e =
    colons-digits (padded_decimal 2 m) (colon ∷ (padded_decimal 2 s ++ rest)) (printed 2 m (omega arith)).digits
    ∙ colons-colon (padded_decimal 2 s ++ rest)
    ∙ ap (λ n. 1 + n) (colons-digits (padded_decimal 2 s) rest (printed 2 s (omega arith)).digits ∙ e.no_colons)

hours-colons : (h m s : ℕ) (rest : List ℕ) → h < 24 → m < 60 → s < 60 → Ends rest → colons (padded_decimal 2 h ++ colon ∷ (padded_decimal 2 m ++ colon ∷ (padded_decimal 2 s ++ rest))) ≡ 2
hours-colons h m s rest a b c e =
    colons-digits (padded_decimal 2 h) _ (printed 2 h (omega arith)).digits
    ∙ colons-colon (padded_decimal 2 m ++ colon ∷ (padded_decimal 2 s ++ rest))
    ∙ ap (λ n. 1 + n) (minutes-colons m s rest b c e)

days-colons : (d h m s : ℕ) (rest : List ℕ) → d < 2 ^ 32 → h < 24 → m < 60 → s < 60 → Ends rest → colons (decimal d ++ colon ∷ (padded_decimal 2 h ++ colon ∷ (padded_decimal 2 m ++ colon ∷ (padded_decimal 2 s ++ rest)))) ≡ 3
days-colons d h m s rest big a b c e =
    colons-digits (decimal d) _ (digits_model.from (decimal d) (decimal_is_IsNumeral d (omega arith)).0.1)
    ∙ colons-colon (padded_decimal 2 h ++ colon ∷ (padded_decimal 2 m ++ colon ∷ (padded_decimal 2 s ++ rest)))
    ∙ ap (λ n. 1 + n) (hours-colons h m s rest a b c e)

minutes-back : (m s : ℕ) (rest : List ℕ) → m < 60 → s < 60 → Ends rest → IsClock (padded_decimal 2 m ++ colon ∷ (padded_decimal 2 s ++ rest)) (clock 0 0 m s) rest
minutes-back m s rest a b e =
    let pm = printed 2 m (omega arith) in
    let ps = printed 2 s (omega arith) in
    let hours : m / 60 ≡ 0 = omega arith in
    let same : m % 60 ≡ m = omega arith in
    let carried : from_minutes m s ≡ clock 0 0 m s = rw (hours, same) refl in
    let fits : number (padded_decimal 2 m) < 2 ^ 32 = omega (arith, pm.value) in
    inl (record {
      one_colon = minutes-colons m s rest a b e;
      minutes = padded_decimal 2 m;
      seconds = padded_decimal 2 s;
      tail = padded_decimal 2 s ++ rest;
      first = value-back _ (padded_decimal 2 m) (padded_decimal 2 s ++ rest) refl pm.digits pm.some;
      last = number-back (padded_decimal 2 s) rest ps.digits ps.some e.no_number;
      two_or_more = pm.least;
      fits = fits;
      two = printed-exact 2 s (omega arith) (omega arith) (omega arith);
      value = sym carried ∙ (λ i. from_minutes (sym pm.value i) (sym ps.value i));
    })

hours-back : (h m s : ℕ) (rest : List ℕ) → h < 24 → m < 60 → s < 60 → Ends rest → IsClock (padded_decimal 2 h ++ colon ∷ (padded_decimal 2 m ++ colon ∷ (padded_decimal 2 s ++ rest))) (clock 0 h m s) rest
hours-back h m s rest a b c e =
    let ph = printed 2 h (omega arith) in
    let pm = printed 2 m (omega arith) in
    let ps = printed 2 s (omega arith) in
    let days : h / 24 ≡ 0 = omega arith in
    let same : h % 24 ≡ h = omega arith in
    let carried : from_hours h m s ≡ clock 0 h m s = rw (days, same) refl in
    let fits : number (padded_decimal 2 h) < 2 ^ 32 = omega (arith, ph.value) in
    inr (inl (record {
      two_colons = hours-colons h m s rest a b c e;
      hours = padded_decimal 2 h;
      minutes = padded_decimal 2 m;
      seconds = padded_decimal 2 s;
      tail = padded_decimal 2 m ++ colon ∷ (padded_decimal 2 s ++ rest);
      next_tail = padded_decimal 2 s ++ rest;
      first = value-back _ (padded_decimal 2 h) _ refl ph.digits ph.some;
      next = value-back _ (padded_decimal 2 m) _ refl pm.digits pm.some;
      last = number-back (padded_decimal 2 s) rest ps.digits ps.some e.no_number;
      two_or_more = ph.least;
      fits = fits;
      two_each = (printed-exact 2 m (omega arith) (omega arith) (omega arith), printed-exact 2 s (omega arith) (omega arith) (omega arith));
      value = sym carried ∙ (λ i. from_hours (sym ph.value i) (sym pm.value i) (sym ps.value i));
    }))

days-back : (d h m s : ℕ) (rest : List ℕ) → d < 2 ^ 32 → h < 24 → m < 60 → s < 60 → Ends rest → IsClock (decimal d ++ colon ∷ (padded_decimal 2 h ++ colon ∷ (padded_decimal 2 m ++ colon ∷ (padded_decimal 2 s ++ rest)))) (clock d h m s) rest
days-back d h m s rest big a b c e =
    let pd = decimal_is_IsNumeral d (omega arith) in
    let ph = printed 2 h (omega arith) in
    let pm = printed 2 m (omega arith) in
    let ps = printed 2 s (omega arith) in
    let fits : number (decimal d) < 2 ^ 32 = omega (arith, pd.1) in
    inr (inr (record {
      three_colons = days-colons d h m s rest big a b c e;
      days = decimal d;
      hours = padded_decimal 2 h;
      minutes = padded_decimal 2 m;
      seconds = padded_decimal 2 s;
      tail = padded_decimal 2 h ++ colon ∷ (padded_decimal 2 m ++ colon ∷ (padded_decimal 2 s ++ rest));
      next_tail = padded_decimal 2 m ++ colon ∷ (padded_decimal 2 s ++ rest);
      last_tail = padded_decimal 2 s ++ rest;
      first = value-back _ (decimal d) _ refl (digits_model.from (decimal d) pd.0.1) pd.0.0;
      second = value-back _ (padded_decimal 2 h) _ refl ph.digits ph.some;
      third = value-back _ (padded_decimal 2 m) _ refl pm.digits pm.some;
      last = number-back (padded_decimal 2 s) rest ps.digits ps.some e.no_number;
      fits = fits;
      two_each = (printed-exact 2 h (omega arith) (omega arith) (omega arith), printed-exact 2 m (omega arith) (omega arith) (omega arith), printed-exact 2 s (omega arith) (omega arith) (omega arith));
      value = λ i. clock (sym pd.1 i) (sym ph.value i) (sym pm.value i) (sym ps.value i);
    }))

-- a whole printed duration

-- the printed values down to the seconds, and a rest
abbrev pub values_text : Duration → List ℕ → List ℕ
values_text d rest = days_text d.days ++ (hours_text (nat_lt 0 d.days) d.hours ++ (padded_decimal 2 d.minutes ++ colon ∷ (padded_decimal 2 d.seconds ++ rest)))

abbrev pub values_of : Duration → Duration
values_of d = clock d.days d.hours d.minutes d.seconds

pub record Bounds (d : Duration) : Type 0 where
  pub days : d.days < 2 ^ 32
  pub hours : d.hours < 24
  pub minutes : d.minutes < 60
  pub seconds : d.seconds < 60
  pub milliseconds : d.milliseconds < 1000

pub bounds-of : (d : Duration) → d.days < 2 ^ 32 → reads_back d ≡ true → Bounds d
bounds-of d small h =
    let p = and-both (nat_lt d.hours 24 && nat_lt d.minutes 60 && nat_lt d.seconds 60) (nat_lt d.milliseconds 1000) h in
    let q = and-both (nat_lt d.hours 24 && nat_lt d.minutes 60) (nat_lt d.seconds 60) p.0 in
    let r = and-both (nat_lt d.hours 24) (nat_lt d.minutes 60) q.0 in
    record {
      days = small;
      hours = grind (arith, nat_tests, r.0);
      minutes = grind (arith, nat_tests, r.1);
      seconds = grind (arith, nat_tests, q.1);
      milliseconds = grind (arith, nat_tests, p.1);
    }

pub not_too_large : (d : Duration) → Bounds d → is_too_large d ≡ false
not_too_large d b =
    let h : nat_lt 23 d.hours ≡ false = grind (arith, nat_tests, b.hours) in
    let m : nat_lt 59 d.minutes ≡ false = grind (arith, nat_tests, b.minutes) in
    let s : nat_lt 59 d.seconds ≡ false = grind (arith, nat_tests, b.seconds) in
    let ms : nat_lt 999 d.milliseconds ≡ false = grind (arith, nat_tests, b.milliseconds) in
    rw (h, m, s, ms) refl

pub clock-back : (d : Duration) (rest : List ℕ) → Bounds d → Ends rest → IsClock (values_text d rest) (values_of d) rest
clock-back d rest b e = go (nat_lt 0 d.days) refl (nat_lt 0 d.hours) refl
  where
    body : List ℕ
    body = padded_decimal 2 d.minutes ++ colon ∷ (padded_decimal 2 d.seconds ++ rest)

    go : (x : Bool) → nat_lt 0 d.days ≡ x → (y : Bool) → nat_lt 0 d.hours ≡ y → IsClock (values_text d rest) (values_of d) rest
    go true f y g =
        let text : values_text d rest ≡ decimal d.days ++ colon ∷ (padded_decimal 2 d.hours ++ colon ∷ body) =
        rw f (append_assoc (decimal d.days) (colon ∷ []) ((padded_decimal 2 d.hours ++ colon ∷ []) ++ body) ∙ ap (λ x. decimal d.days ++ colon ∷ x) (append_assoc (padded_decimal 2 d.hours) (colon ∷ []) body)) in
        rw (sym text) at (days-back d.days d.hours d.minutes d.seconds rest b.days b.hours b.minutes b.seconds e)
    go false f true g =
        let none : d.days ≡ 0 = grind (arith, nat_tests) in
        let text : values_text d rest ≡ padded_decimal 2 d.hours ++ colon ∷ body = rw (f, g) (append_assoc (padded_decimal 2 d.hours) (colon ∷ []) body) in
        let same : clock 0 d.hours d.minutes d.seconds ≡ values_of d = λ i. clock (sym none i) d.hours d.minutes d.seconds in
        rw (sym text, same) at (hours-back d.hours d.minutes d.seconds rest b.hours b.minutes b.seconds e)
    go false f false g =
        let no_days : d.days ≡ 0 = grind (arith, nat_tests) in
        let no_hours : d.hours ≡ 0 = grind (arith, nat_tests) in
        let text : values_text d rest ≡ body = rw (f, g) refl in
        let same : clock 0 0 d.minutes d.seconds ≡ values_of d = λ i. clock (sym no_days i) (sym no_hours i) d.minutes d.seconds in
        rw (sym text, same) at (minutes-back d.minutes d.seconds rest b.minutes b.seconds e)

clock_along : {s t : List ℕ} {d : Duration} {rest : List ℕ} → s ≡ t → IsClock t d rest → IsClock s d rest
clock_along {s} {t} {d} {rest} e v = subst (λ x. IsClock x d rest) (sym e) v

-- the fraction, and the rest behind it
fraction-back : (d : Duration) (rest : List ℕ) → Bounds d → Ends rest → nat_lt 0 d.milliseconds ≡ true → IsFraction (values_text d (fraction_text d.milliseconds ++ rest)) d rest
fraction-back d rest b e some =
    let p = printed 3 d.milliseconds (omega (arith, b.milliseconds)) in
    let three : length (padded_decimal 3 d.milliseconds) ≡ 3 = printed-exact 3 d.milliseconds (omega arith) (omega (arith, b.milliseconds)) (omega (arith, b.milliseconds)) in
    let text : fraction_text d.milliseconds ++ rest ≡ comma ∷ (padded_decimal 3 d.milliseconds ++ rest) = rw some refl in
    let ends : Ends (comma ∷ (padded_decimal 3 d.milliseconds ++ rest)) = record {
      no_colons = colons-comma (padded_decimal 3 d.milliseconds ++ rest) ∙ colons-digits (padded_decimal 3 d.milliseconds) rest p.digits ∙ e.no_colons;
      no_number = comma-no_number;
    } in
    let value : milliseconds (padded_decimal 3 d.milliseconds) ≡ d.milliseconds = rw (three, p.value) (thousandths d.milliseconds) in
    let clock_parts : IsClock (values_text d (fraction_text d.milliseconds ++ rest)) (values_of d) (comma ∷ (padded_decimal 3 d.milliseconds ++ rest)) =
    clock_along (ap (values_text d) text) (clock-back d (comma ∷ (padded_decimal 3 d.milliseconds ++ rest)) b ends) in
    record {
      seconds = values_of d;
      behind_seconds = comma ∷ (padded_decimal 3 d.milliseconds ++ rest);
      fraction = padded_decimal 3 d.milliseconds;
      tail = padded_decimal 3 d.milliseconds ++ rest;
      values = clock_parts;
      sign = begins-itself (comma ∷ []) _;
      last = number-back (padded_decimal 3 d.milliseconds) rest p.digits p.some e.no_number;
      value = λ i. record { days = d.days; hours = d.hours; minutes = d.minutes; seconds = d.seconds; milliseconds = sym value i };
    }
  where
    thousandths : (n : ℕ) → (n * 2000 + 10 ^ 3) / (2 * 10 ^ 3) ≡ n
    thousandths n = omega arith

plain-back : (d : Duration) (rest : List ℕ) → Bounds d → Ends rest → nat_lt 0 d.milliseconds ≡ false → IsClock (values_text d (fraction_text d.milliseconds ++ rest)) d rest
plain-back d rest b e none =
    let zero_ms : d.milliseconds ≡ 0 = grind (arith, nat_tests) in
    let same : values_of d ≡ d = λ i. record { days = d.days; hours = d.hours; minutes = d.minutes; seconds = d.seconds; milliseconds = sym zero_ms i } in
    let text : fraction_text d.milliseconds ++ rest ≡ rest = rw none refl in
    let v : IsClock (values_text d rest) d rest = rw same at (clock-back d rest b e) in
    clock_along (ap (values_text d) text) v

nothing_ends : Ends []
nothing_ends = record { no_colons = refl; no_number = refl }

hyphen_ends : (rest : List ℕ) → Ends (hyphen ∷ rest)
hyphen_ends rest = record { no_colons = colons-hyphen rest; no_number = hyphen-numeric }

pub duration-back : (d : Duration) → Bounds d → ReadsAs (duration_text d) d
duration-back d b = (go (nat_lt 0 d.milliseconds) refl, not_too_large d b)
  where
    whole : duration_text d ≡ values_text d (fraction_text d.milliseconds ++ [])
    whole = ap (values_text d) (sym (append-nil (fraction_text d.milliseconds)))

    go : (x : Bool) → nat_lt 0 d.milliseconds ≡ x → IsDuration (duration_text d) d
    go true f =
        let v = fraction-back d [] b nothing_ends f in
        inr (record { gap = []; parts = subst (λ t. IsFraction t d []) (sym whole) v; space = refl })
    go false f = inl (clock_along whole (plain-back d [] b nothing_ends f))

-- a printed duration with a rest behind it
append_text : (a b m s f t : List ℕ) → (a ++ (b ++ (m ++ colon ∷ (s ++ f)))) ++ t ≡ a ++ (b ++ (m ++ colon ∷ (s ++ (f ++ t))))
append_text a b m s f t =
    append_assoc a (b ++ (m ++ colon ∷ (s ++ f))) t
    ∙ ap (λ x. a ++ x) (append_assoc b (m ++ colon ∷ (s ++ f)) t
    ∙ ap (λ x. b ++ x) (append_assoc m (colon ∷ (s ++ f)) t
    ∙ ap (λ x. m ++ colon ∷ x) (append_assoc s f t)))

pub text-append : (d : Duration) (t : List ℕ) → duration_text d ++ t ≡ values_text d (fraction_text d.milliseconds ++ t)
text-append d t = append_text (days_text d.days) (hours_text (nat_lt 0 d.days) d.hours) (padded_decimal 2 d.minutes) (padded_decimal 2 d.seconds) (fraction_text d.milliseconds) t

pub start-back : (d : Duration) (t : List ℕ) → Bounds d → IsStart (duration_text d ++ hyphen ∷ t) d (hyphen ∷ t)
start-back d t b = go (nat_lt 0 d.milliseconds) refl
  where
    whole : duration_text d ++ hyphen ∷ t ≡ values_text d (fraction_text d.milliseconds ++ hyphen ∷ t)
    whole = text-append d (hyphen ∷ t)

    go : (x : Bool) → nat_lt 0 d.milliseconds ≡ x → IsStart (duration_text d ++ hyphen ∷ t) d (hyphen ∷ t)
    go true f =
        let v = fraction-back d (hyphen ∷ t) b (hyphen_ends t) f in
        inr (inr (subst (λ x. IsFraction x d (hyphen ∷ t)) (sym whole) v))
    go false f =
        let v = plain-back d (hyphen ∷ t) b (hyphen_ends t) f in
        inr (inl (record { values = clock_along whole v; tail = t; sign = begins-itself (hyphen ∷ []) t }))

-- a printed duration begins with a digit
digit_first : (ds rest : List ℕ) → list_all is_ascii_digit ds ≡ true → 0 < length ds → begins_with (λ c. c == hyphen) (ds ++ rest) ≡ false
digit_first [] rest h some = absurd (omega arith)
digit_first (c ∷ cs) rest h some =
    let p = and-both (is_ascii_digit c) (list_all is_ascii_digit cs) h in
    grind (arith, nat_tests)

first-back : (d : Duration) → Bounds d → begins_with (λ c. c == hyphen) (duration_text d) ≡ false
first-back d b = go (nat_lt 0 d.days) refl (nat_lt 0 d.hours) refl
  where
    body : List ℕ
    body = padded_decimal 2 d.minutes ++ colon ∷ (padded_decimal 2 d.seconds ++ fraction_text d.milliseconds)

    go : (x : Bool) → nat_lt 0 d.days ≡ x → (y : Bool) → nat_lt 0 d.hours ≡ y → begins_with (λ c. c == hyphen) (duration_text d) ≡ false
    go true f y g =
        let p = decimal_is_IsNumeral d.days (omega (arith, b.days)) in
        let text : duration_text d ≡ decimal d.days ++ colon ∷ ((padded_decimal 2 d.hours ++ colon ∷ []) ++ body) = rw f (append_assoc (decimal d.days) (colon ∷ []) ((padded_decimal 2 d.hours ++ colon ∷ []) ++ body)) in
        ap (begins_with (λ c. c == hyphen)) text ∙ digit_first (decimal d.days) _ (digits_model.from (decimal d.days) p.0.1) p.0.0
    go false f true g =
        let p = printed 2 d.hours (omega (arith, b.hours)) in
        let text : duration_text d ≡ padded_decimal 2 d.hours ++ colon ∷ body = rw (f, g) (append_assoc (padded_decimal 2 d.hours) (colon ∷ []) body) in
        ap (begins_with (λ c. c == hyphen)) text ∙ digit_first (padded_decimal 2 d.hours) _ p.digits p.some
    go false f false g =
        let p = printed 2 d.minutes (omega (arith, b.minutes)) in
        let text : duration_text d ≡ body = rw (f, g) refl in
        ap (begins_with (λ c. c == hyphen)) text ∙ digit_first (padded_decimal 2 d.minutes) _ p.digits p.some

-- printed texts are ASCII

duration-ascii : (d : Duration) → Bounds d → IsAscii (duration_text d)
duration-ascii d b =
    let sign = IsAscii-cons colon [] (omega arith) IsAscii-nil in
    let days = IsAscii-if (nat_lt 0 d.days) (decimal d.days ++ colon ∷ []) (IsAscii-append (decimal d.days) (colon ∷ []) (IsAscii-decimal d.days (omega (arith, b.days))) sign) in
    let hours = IsAscii-if (nat_lt 0 d.days || nat_lt 0 d.hours) (padded_decimal 2 d.hours ++ colon ∷ []) (IsAscii-append (padded_decimal 2 d.hours) (colon ∷ []) (IsAscii-padded 2 d.hours (omega (arith, b.hours))) sign) in
    let fraction = IsAscii-if (nat_lt 0 d.milliseconds) (comma ∷ padded_decimal 3 d.milliseconds) (IsAscii-cons comma (padded_decimal 3 d.milliseconds) (omega arith) (IsAscii-padded 3 d.milliseconds (omega (arith, b.milliseconds)))) in
    let seconds = IsAscii-append (padded_decimal 2 d.seconds) (fraction_text d.milliseconds) (IsAscii-padded 2 d.seconds (omega (arith, b.seconds))) fraction in
    let minutes = IsAscii-append (padded_decimal 2 d.minutes) (colon ∷ (padded_decimal 2 d.seconds ++ fraction_text d.milliseconds)) (IsAscii-padded 2 d.minutes (omega (arith, b.minutes))) (IsAscii-cons colon (padded_decimal 2 d.seconds ++ fraction_text d.milliseconds) (omega arith) seconds) in
    IsAscii-append (days_text d.days) _ days (IsAscii-append (hours_text (nat_lt 0 d.days) d.hours) _ hours minutes)

-- read back

pub duration-read_back : (d : Duration) → d.days < 2 ^ 32 → reads_back d ≡ true → duration_read (chars (duration_text d)) ≡ Ok d
duration-read_back d small h =
    let b = bounds-of d small h in
    ap duration_read (chars-IsAscii (duration_text d) (duration-ascii d b)) ∙ as-reads (duration_text d) d (duration-back d b)

same-durations : (d e : Duration) → same_duration d e ≡ true → e ≡ d
same-durations d e h =
    let p = and-both (d.days == e.days && d.hours == e.hours && d.minutes == e.minutes && d.seconds == e.seconds) (d.milliseconds == e.milliseconds) h in
    let q = and-both (d.days == e.days && d.hours == e.hours && d.minutes == e.minutes) (d.seconds == e.seconds) p.0 in
    let r = and-both (d.days == e.days && d.hours == e.hours) (d.minutes == e.minutes) q.0 in
    let s = and-both (d.days == e.days) (d.hours == e.hours) r.0 in
    let days : e.days ≡ d.days = grind (arith, nat_tests, s.0) in
    let hours : e.hours ≡ d.hours = grind (arith, nat_tests, s.1) in
    let minutes : e.minutes ≡ d.minutes = grind (arith, nat_tests, r.1) in
    let seconds : e.seconds ≡ d.seconds = grind (arith, nat_tests, q.1) in
    let milliseconds : e.milliseconds ≡ d.milliseconds = grind (arith, nat_tests, p.1) in
    λ i. record { days = days i; hours = hours i; minutes = minutes i; seconds = seconds i; milliseconds = milliseconds i }

pub range-back : (r : DurationRange) → Bounds r.start → Bounds r.end → ReadsAsRange (range_text r) r × IsAscii (range_text r)
range-back r s e = go (same_duration r.start r.end) refl
  where
    two : List ℕ
    two = duration_text r.start ++ hyphen ∷ duration_text r.end

    go : (b : Bool) → same_duration r.start r.end ≡ b → ReadsAsRange (range_text r) r × IsAscii (range_text r)
    go true f =
        let text : range_text r ≡ duration_text r.start = rw f refl in
        let parts : ReadsAsRange (duration_text r.start) r = inl (record { start = duration-back r.start s; same = same-durations r.start r.end f }) in
        (subst (λ t. ReadsAsRange t r) (sym text) parts, subst IsAscii (sym text) (duration-ascii r.start s))
    go false f =
        let text : range_text r ≡ two = rw f refl in
        let texts : HasTwoTexts two r.start (duration_text r.end) = record {
          rest = hyphen ∷ duration_text r.end;
          tail = duration_text r.end;
          hyphens = [];
          front = start-back r.start (duration_text r.end) s;
          sign = begins-itself (hyphen ∷ []) (duration_text r.end);
          cut = refl;
          more = refl;
          all_hyphens = first-back r.end e;
        } in
        let parts : ReadsAsRange two r = inr (record {
          end_text = duration_text r.end;
          texts = texts;
          bounds = not_too_large r.start s;
          end = duration-back r.end e;
        }) in
        let ascii : IsAscii two = IsAscii-append (duration_text r.start) _ (duration-ascii r.start s) (IsAscii-cons hyphen _ (omega arith) (duration-ascii r.end e)) in
        (subst (λ t. ReadsAsRange t r) (sym text) parts, subst IsAscii (sym text) ascii)

pub range-read_back : (r : DurationRange) → r.start.days < 2 ^ 32 → r.end.days < 2 ^ 32 → range_reads_back r ≡ true → range_read (chars (range_text r)) ≡ Ok r
range-read_back r s e h =
    let p = and-both (reads_back r.start) (reads_back r.end) h in
    let v = range-back r (bounds-of r.start s p.0) (bounds-of r.end e p.1) in
    ap range_read (chars-IsAscii (range_text r) v.1) ∙ as-range-reads (range_text r) r v.0
