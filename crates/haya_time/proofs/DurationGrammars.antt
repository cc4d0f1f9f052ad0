-- The computed readings find the parts of the grammar, and no others.
use Rattle.std.proofs.Common.{◌≡◌, ℕ, ◌^◌, ◌<◌, ◌≤◌, ◌==◌, inl, inr, nat_lt, nat_le, Bool, true, false, List, [], ◌∷◌, ◌++◌, length, refl, ap, sym, ◌∙◌, arith, Option, Some, None}
use Rattle.std.proofs.lemmas.Bool.Decides.{nat_tests}
use Rattle.std.specs.Prelude.{option_map, option_and_then}
use Rattle.std.specs.Char.{is_ascii_digit, is_whitespace}
use Rattle.std.specs.List.{list_all}
use Rattle.std.specs.Str.{skip_leading_whitespace}
use Rattle.haya_time.specs.declared.duration.Duration.{Duration}
use Rattle.haya_text.specs.Characters.{is_numeric, begins_with, run, behind_run}
use Rattle.haya_time.specs.DurationText.{colon, number, colons}
use Rattle.haya_time.specs.DurationReading.{digits_at, with_colon, long_number, two_number, long_at, two_at, two_colon_at, minutes_at, hours_at, days_at, clock_at}
use Rattle.haya_time.specs.DurationValues.{clock, from_hours, from_minutes}
use Rattle.haya_time.specs.DurationGrammar.{IsNumber, IsValue, AreMinutes, AreHours, AreDays, IsClock}
use Rattle.haya_time.specs.TextFront.{BeginsWith, behind}
use Rattle.haya_text.proofs.Tells.{and-both}
use Rattle.haya_time.proofs.TextFronts.{begins, begins-behind, begins-skip, behind-begins, digit-no_space}
use Rattle.haya_text.proofs.Numerics.{digit-numeric, run-behind_run, all-run, run-of, behind_run-of}

-- optional values

pub record Through {A B : Type 0} (f : A → Option B) (o : Option A) (y : B) : Type 0 where
  pub x : A
  pub was : o ≡ Some x
  pub gives : f x ≡ Some y

pub through : {A B : Type 0} (f : A → Option B) (o : Option A) (y : B) → option_and_then f o ≡ Some y → Through f o y
through f None y h = cc
through f (Some x) y h = record { x = x; was = refl; gives = h }

pub record Mapped {A B : Type 0} (f : A → B) (o : Option A) (y : B) : Type 0 where
  pub x : A
  pub was : o ≡ Some x
  pub gives : f x ≡ y

pub mapped : {A B : Type 0} (f : A → B) (o : Option A) (y : B) → option_map f o ≡ Some y → Mapped f o y
mapped f None y h = cc
mapped f (Some x) y h = record { x = x; was = refl; gives = cc }

pub some_pair : {A B : Type 0} (p q : A × B) → Some p ≡ Some q → (p.0 ≡ q.0) × (p.1 ≡ q.1)
some_pair p q h = let e : p ≡ q = cc in (ap (λ x. x.0) e, ap (λ x. x.1) e)

no_digit : (rest : List ℕ) → begins_with is_numeric rest ≡ false → begins_with is_ascii_digit rest ≡ false
no_digit [] h = refl
no_digit (c ∷ cs) h = go (is_ascii_digit c) refl
  where
    go : (b : Bool) → is_ascii_digit c ≡ b → is_ascii_digit c ≡ false
    go true e = let n = digit-numeric c e in cc
    go false e = e

-- numbers

pub number-of : (text ds rest : List ℕ) → digits_at text ≡ Some (ds, rest) → 0 < length ds → IsNumber text ds rest
number-of text ds rest h some = go (begins_with is_numeric (behind_run is_ascii_digit (skip_leading_whitespace text))) refl
  where
    front : List ℕ
    front = skip_leading_whitespace text

    parts : begins_with is_numeric (behind_run is_ascii_digit front) ≡ false → ds ≡ run is_ascii_digit front → rest ≡ behind_run is_ascii_digit front → IsNumber text ds rest
    parts n d r = record {
      stands = begins ds text rest (run-behind_run is_ascii_digit front ∙ (λ i. sym d i ++ sym r i));
      some = some;
      ascii = rw d (all-run is_ascii_digit front);
      whole = rw r n;
    }

    go : (b : Bool) → begins_with is_numeric (behind_run is_ascii_digit front) ≡ b → IsNumber text ds rest
    go true n = let e : digits_at text ≡ None = rw n refl in cc
    go false n =
        let e : digits_at text ≡ Some (run is_ascii_digit front, behind_run is_ascii_digit front) = rw n refl in
        let same = some_pair (ds, rest) (run is_ascii_digit front, behind_run is_ascii_digit front) (sym h ∙ e) in
        parts n same.0 same.1

no_space_first : (ds rest : List ℕ) → 0 < length ds → list_all is_ascii_digit ds ≡ true → begins_with is_whitespace (ds ++ rest) ≡ false
no_space_first [] rest some h = absurd (omega arith)
no_space_first (c ∷ cs) rest some h = digit-no_space c (and-both (is_ascii_digit c) (list_all is_ascii_digit cs) h).0

pub number-at : (text ds rest : List ℕ) → IsNumber text ds rest → digits_at text ≡ Some (ds, rest)
number-at text ds rest n =
    let front : skip_leading_whitespace text ≡ ds ++ rest = begins-skip ds text rest (no_space_first ds rest n.some n.ascii) n.stands in
    let r : run is_ascii_digit (ds ++ rest) ≡ ds = run-of is_ascii_digit ds rest n.ascii (no_digit rest n.whole) in
    let b : behind_run is_ascii_digit (ds ++ rest) ≡ rest = behind_run-of is_ascii_digit ds rest n.ascii (no_digit rest n.whole) in
    rw (front, b, n.whole, r) refl

-- values

pub record LongValue (least : ℕ) (text : List ℕ) (n : ℕ) (tail : List ℕ) : Type 0 where
  pub digits : List ℕ
  pub value : IsValue text digits tail
  pub enough : least ≤ length digits
  pub fits : number digits < 2 ^ 32
  pub is : n ≡ number digits

pub record TwoNumber (text : List ℕ) (n : ℕ) (rest : List ℕ) : Type 0 where
  pub digits : List ℕ
  pub here : IsNumber text digits rest
  pub two : length digits ≡ 2
  pub is : n ≡ number digits

pub record TwoValue (text : List ℕ) (n : ℕ) (tail : List ℕ) : Type 0 where
  pub digits : List ℕ
  pub value : IsValue text digits tail
  pub two : length digits ≡ 2
  pub is : n ≡ number digits

-- before a colon
pub before_colon-of : {A : Type 0} (p q : A × List ℕ) → with_colon p ≡ Some q → BeginsWith (colon ∷ []) p.1 q.1 × (q.0 ≡ p.0)
before_colon-of p q h =
    let m = mapped (λ rest. (p.0, rest)) (behind colon p.1) q h in
    (behind-begins colon p.1 q.1 (m.was ∙ ap Some (ap (λ x. x.1) m.gives)), sym (ap (λ x. x.0) m.gives))

pub before_colon-at : {A : Type 0} (x : A) (rest tail : List ℕ) → BeginsWith (colon ∷ []) rest tail → with_colon (x, rest) ≡ Some (x, tail)
before_colon-at x rest tail s = ap (option_map (λ t. (x, t))) (begins-behind colon rest tail refl s)

record Long (least : ℕ) (p : List ℕ × List ℕ) (q : ℕ × List ℕ) : Type 0 where
  enough : least ≤ length p.0
  fits : number p.0 < 2 ^ 32
  is : q.0 ≡ number p.0
  same : q.1 ≡ p.1

long_number-of : (least : ℕ) (p : List ℕ × List ℕ) (q : ℕ × List ℕ) → long_number least p ≡ Some q → Long least p q
long_number-of least p q h = go (nat_le least (length p.0)) refl (nat_lt (number p.0) (2 ^ 32)) refl
  where
    go : (a : Bool) → nat_le least (length p.0) ≡ a → (b : Bool) → nat_lt (number p.0) (2 ^ 32) ≡ b → Long least p q
    go true f true g =
        let e : long_number least p ≡ Some (number p.0, p.1) = rw (f, g) refl in
        let n : q.0 ≡ number p.0 = cc in
        let r : q.1 ≡ p.1 = cc in
        record { enough = grind (arith, nat_tests); fits = grind (arith, nat_tests); is = n; same = r }
    go true f false g = let e : long_number least p ≡ None = rw (f, g) refl in cc
    go false f b g = let e : long_number least p ≡ None = rw f refl in cc

pub long-of : (least : ℕ) (text : List ℕ) (q : ℕ × List ℕ) → 0 < least → long_at least text ≡ Some q → LongValue least text q.0 q.1
long-of least text q pos h =
    let a = through with_colon (option_and_then (long_number least) (digits_at text)) q h in
    let b = through (long_number least) (digits_at text) a.x a.was in
    let n = long_number-of least b.x a.x b.gives in
    let c = before_colon-of a.x q a.gives in
    let s : BeginsWith (colon ∷ []) b.x.1 q.1 = rw n.same at c.0 in
    record {
      digits = b.x.0;
      value = record { rest = b.x.1; number = number-of text b.x.0 b.x.1 b.was (omega (arith, n.enough)); sign = s };
      enough = n.enough;
      fits = n.fits;
      is = c.1 ∙ n.is;
    }

pub long-at : (least : ℕ) (text : List ℕ) (n : ℕ) (tail : List ℕ) → LongValue least text n tail → long_at least text ≡ Some (n, tail)
long-at least text n tail v =
    let d = number-at text v.digits v.value.rest v.value.number in
    let enough : nat_le least (length v.digits) ≡ true = grind (arith, nat_tests, v.enough) in
    let fits : nat_lt (number v.digits) (2 ^ 32) ≡ true = grind (arith, nat_tests, v.fits) in
    rw (d, enough, fits, v.is) (before_colon-at (number v.digits) v.value.rest tail v.value.sign)

two_number-of : (p : List ℕ × List ℕ) (q : ℕ × List ℕ) → two_number p ≡ Some q → (length p.0 ≡ 2) × (q.0 ≡ number p.0) × (q.1 ≡ p.1)
two_number-of p q h = go (length p.0 == 2) refl
  where
    go : (b : Bool) → (length p.0 == 2) ≡ b → (length p.0 ≡ 2) × (q.0 ≡ number p.0) × (q.1 ≡ p.1)
    go true f =
        let e : two_number p ≡ Some (number p.0, p.1) = rw f refl in
        let l : length p.0 ≡ 2 = grind (arith, nat_tests) in
        let n : q.0 ≡ number p.0 = cc in
        let r : q.1 ≡ p.1 = cc in
        (l, n, r)
    go false f = let e : two_number p ≡ None = rw f refl in cc

pub two-of : (text : List ℕ) (q : ℕ × List ℕ) → two_at text ≡ Some q → TwoNumber text q.0 q.1
two-of text q h =
    let a = through two_number (digits_at text) q h in
    let n = two_number-of a.x q a.gives in
    let some : 0 < length a.x.0 = omega (arith, n.0) in
    let d : IsNumber text a.x.0 q.1 = rw (sym n.2) at (number-of text a.x.0 a.x.1 a.was some) in
    record { digits = a.x.0; here = d; two = n.0; is = n.1 }

pub two-at : (text : List ℕ) (n : ℕ) (rest : List ℕ) → TwoNumber text n rest → two_at text ≡ Some (n, rest)
two-at text n rest v =
    let d = number-at text v.digits rest v.here in
    let two : (length v.digits == 2) ≡ true = grind (arith, nat_tests, v.two) in
    rw (d, two, v.is) refl

pub two_colon-of : (text : List ℕ) (q : ℕ × List ℕ) → two_colon_at text ≡ Some q → TwoValue text q.0 q.1
two_colon-of text q h =
    let a = through with_colon (two_at text) q h in
    let t = two-of text a.x a.was in
    let c = before_colon-of a.x q a.gives in
    record { digits = t.digits; value = record { rest = a.x.1; number = t.here; sign = c.0 }; two = t.two; is = c.1 ∙ t.is }

pub two_colon-at : (text : List ℕ) (n : ℕ) (tail : List ℕ) → TwoValue text n tail → two_colon_at text ≡ Some (n, tail)
two_colon-at text n tail v =
    let t = two-at text n v.value.rest (record { digits = v.digits; here = v.value.number; two = v.two; is = v.is }) in
    rw t (before_colon-at n v.value.rest tail v.value.sign)

-- the values down to the seconds

minutes-of : (text : List ℕ) (q : Duration × List ℕ) → colons text ≡ 1 → minutes_at text ≡ Some q → AreMinutes text q.0 q.1
minutes-of text q n h =
    let a = through (λ m. option_map (λ s. (from_minutes m.0 s.0, s.1)) (two_at m.1)) (long_at 2 text) q h in
    let b = mapped (λ s. (from_minutes a.x.0 s.0, s.1)) (two_at a.x.1) q a.gives in
    let m = long-of 2 text a.x (omega arith) a.was in
    let s = two-of a.x.1 b.x b.was in
    let rest : b.x.1 ≡ q.1 = ap (λ p. p.1) b.gives in
    let last : IsNumber a.x.1 s.digits q.1 = rw rest at s.here in
    record {
      one_colon = n;
      minutes = m.digits;
      seconds = s.digits;
      tail = a.x.1;
      first = m.value;
      last = last;
      two_or_more = m.enough;
      fits = m.fits;
      two = s.two;
      value = sym (ap (λ p. p.0) b.gives) ∙ (λ i. from_minutes (m.is i) (s.is i));
    }

minutes-at : (text : List ℕ) (d : Duration) (rest : List ℕ) → AreMinutes text d rest → minutes_at text ≡ Some (d, rest)
minutes-at text d rest v =
    let a = long-at 2 text (number v.minutes) v.tail (record { digits = v.minutes; value = v.first; enough = v.two_or_more; fits = v.fits; is = refl }) in
    let b = two-at v.tail (number v.seconds) rest (record { digits = v.seconds; here = v.last; two = v.two; is = refl }) in
    rw (a, b, v.value) refl

hours-of : (text : List ℕ) (q : Duration × List ℕ) → colons text ≡ 2 → hours_at text ≡ Some q → AreHours text q.0 q.1
hours-of text q n h =
    let a = through (λ h. option_and_then (λ m. option_map (λ s. (from_hours h.0 m.0 s.0, s.1)) (two_at m.1)) (two_colon_at h.1)) (long_at 2 text) q h in
    let b = through (λ m. option_map (λ s. (from_hours a.x.0 m.0 s.0, s.1)) (two_at m.1)) (two_colon_at a.x.1) q a.gives in
    let c = mapped (λ s. (from_hours a.x.0 b.x.0 s.0, s.1)) (two_at b.x.1) q b.gives in
    let hours = long-of 2 text a.x (omega arith) a.was in
    let m = two_colon-of a.x.1 b.x b.was in
    let s = two-of b.x.1 c.x c.was in
    let rest : c.x.1 ≡ q.1 = ap (λ p. p.1) c.gives in
    let last : IsNumber b.x.1 s.digits q.1 = rw rest at s.here in
    record {
      two_colons = n;
      hours = hours.digits;
      minutes = m.digits;
      seconds = s.digits;
      tail = a.x.1;
      next_tail = b.x.1;
      first = hours.value;
      next = m.value;
      last = last;
      two_or_more = hours.enough;
      fits = hours.fits;
      two_each = (m.two, s.two);
      value = sym (ap (λ p. p.0) c.gives) ∙ (λ i. from_hours (hours.is i) (m.is i) (s.is i));
    }

hours-at : (text : List ℕ) (d : Duration) (rest : List ℕ) → AreHours text d rest → hours_at text ≡ Some (d, rest)
hours-at text d rest v =
    let a = long-at 2 text (number v.hours) v.tail (record { digits = v.hours; value = v.first; enough = v.two_or_more; fits = v.fits; is = refl }) in
    let b = two_colon-at v.tail (number v.minutes) v.next_tail (record { digits = v.minutes; value = v.next; two = v.two_each.0; is = refl }) in
    let c = two-at v.next_tail (number v.seconds) rest (record { digits = v.seconds; here = v.last; two = v.two_each.1; is = refl }) in
    rw (a, b, c, v.value) refl

days-of : (text : List ℕ) (q : Duration × List ℕ) → colons text ≡ 3 → days_at text ≡ Some q → AreDays text q.0 q.1
days-of text q n h =
    let a = through (λ d. option_and_then (λ h. option_and_then (λ m. option_map (λ s. (clock d.0 h.0 m.0 s.0, s.1)) (two_at m.1)) (two_colon_at h.1)) (two_colon_at d.1)) (long_at 1 text) q h in
    let b = through (λ h. option_and_then (λ m. option_map (λ s. (clock a.x.0 h.0 m.0 s.0, s.1)) (two_at m.1)) (two_colon_at h.1)) (two_colon_at a.x.1) q a.gives in
    let c = through (λ m. option_map (λ s. (clock a.x.0 b.x.0 m.0 s.0, s.1)) (two_at m.1)) (two_colon_at b.x.1) q b.gives in
    let e = mapped (λ s. (clock a.x.0 b.x.0 c.x.0 s.0, s.1)) (two_at c.x.1) q c.gives in
    let days = long-of 1 text a.x (omega arith) a.was in
    let hours = two_colon-of a.x.1 b.x b.was in
    let m = two_colon-of b.x.1 c.x c.was in
    let s = two-of c.x.1 e.x e.was in
    let rest : e.x.1 ≡ q.1 = ap (λ p. p.1) e.gives in
    let last : IsNumber c.x.1 s.digits q.1 = rw rest at s.here in
    record {
      three_colons = n;
      days = days.digits;
      hours = hours.digits;
      minutes = m.digits;
      seconds = s.digits;
      tail = a.x.1;
      next_tail = b.x.1;
      last_tail = c.x.1;
      first = days.value;
      second = hours.value;
      third = m.value;
      last = last;
      fits = days.fits;
      two_each = (hours.two, m.two, s.two);
      value = sym (ap (λ p. p.0) e.gives) ∙ (λ i. clock (days.is i) (hours.is i) (m.is i) (s.is i));
    }

days-at : (text : List ℕ) (d : Duration) (rest : List ℕ) → AreDays text d rest → days_at text ≡ Some (d, rest)
days-at text d rest v =
    let a = long-at 1 text (number v.days) v.tail (record { digits = v.days; value = v.first; enough = v.first.number.some; fits = v.fits; is = refl }) in
    let b = two_colon-at v.tail (number v.hours) v.next_tail (record { digits = v.hours; value = v.second; two = v.two_each.0; is = refl }) in
    let c = two_colon-at v.next_tail (number v.minutes) v.last_tail (record { digits = v.minutes; value = v.third; two = v.two_each.1; is = refl }) in
    let e = two-at v.last_tail (number v.seconds) rest (record { digits = v.seconds; here = v.last; two = v.two_each.2; is = refl }) in
    rw (a, b, c, e, v.value) refl

pub clock-of : (text : List ℕ) (q : Duration × List ℕ) → clock_at text ≡ Some q → IsClock text q.0 q.1
clock-of text q h = go (colons text == 1) refl (colons text == 2) refl (colons text == 3) refl
  where
    go : (a : Bool) → (colons text == 1) ≡ a → (b : Bool) → (colons text == 2) ≡ b → (c : Bool) → (colons text == 3) ≡ c → IsClock text q.0 q.1
    go true e b f c g =
        let n : colons text ≡ 1 = grind (arith, nat_tests) in
        inl (minutes-of text q n (rw e at h))
    go false e true f c g =
        let n : colons text ≡ 2 = grind (arith, nat_tests) in
        inr (inl (hours-of text q n (rw (e, f) at h)))
    go false e false f true g =
        let n : colons text ≡ 3 = grind (arith, nat_tests) in
        inr (inr (days-of text q n (rw (e, f, g) at h)))
    go false e false f false g = let none : clock_at text ≡ None = rw (e, f, g) refl in cc

pub clock-at : (text : List ℕ) (d : Duration) (rest : List ℕ) → IsClock text d rest → clock_at text ≡ Some (d, rest)
clock-at text d rest (inl v) = rw v.one_colon (minutes-at text d rest v)
clock-at text d rest (inr (inl v)) = rw v.two_colons (hours-at text d rest v)
clock-at text d rest (inr (inr v)) = rw v.three_colons (days-at text d rest v)
