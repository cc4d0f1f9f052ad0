-- The computed readings of durations and ranges are those of the grammar.
use Rattle.std.proofs.Common.{◌≡◌, ℕ, ◌<◌, ◌==◌, ◌⊎◌, inl, inr, Bool, true, false, ◌||◌, List, [], ◌∷◌, length, refl, ap, sym, ◌∙◌, arith, Option, Some, None, Result, Ok, Err}
use Rattle.std.specs.Prelude.{is_some}
use Rattle.std.specs.Char.{is_whitespace}
use Rattle.std.specs.List.{list_all}
use Rattle.std.specs.Str.{skip_leading_whitespace}
use Rattle.haya_time.specs.declared.duration.Duration.{Duration}
use Rattle.haya_time.specs.declared.duration.range.DurationRange.{DurationRange}
use Rattle.haya_time.specs.declared.duration.reading.DurationError.{DurationError}
use Rattle.haya_time.specs.declared.duration.reading.DurationError.TheVariants.{Malformed, TooLarge}
use Rattle.haya_text.specs.Characters.{comma, hyphen, run, behind_run}
use Rattle.haya_time.specs.TextFront.{BeginsWith, IsBlank, behind, is_empty}
use Rattle.haya_time.specs.DurationReading.{digits_at, clock_at, Front, fraction_front, with_fraction, front_at, is_ended, check_bounds, duration_read, is_start, range_to, range_from, range_read}
use Rattle.haya_time.specs.DurationValues.{milliseconds, is_too_large}
use Rattle.haya_time.specs.DurationGrammar.{IsClock, IsFraction, IsDuration, ReadsAs, ReadsTooLarge, IsStart, HasTwoTexts, IsOneDuration, ReadsAsRange, HasLargeStart, RangeTooLarge}
use Rattle.haya_text.proofs.Numerics.{run-behind_run, all-run, behind_run-of, behind_run-stops}
use Rattle.haya_time.proofs.DurationGrammars.{Through, through, number-of, number-at, clock-of, clock-at}
use Rattle.haya_time.proofs.DurationNumbers.{some-same}
use Rattle.haya_time.proofs.TextFronts.{begins-behind, begins-skip, behind-begins, blank-skipped, blank_by_rest}

-- the duration at the front

pub front-clock : (text : List ℕ) (d : Duration) (rest : List ℕ) → IsClock text d rest → behind comma rest ≡ None → front_at text ≡ Some (record { duration = d; has_fraction = false; rest = rest })
front-clock text d rest v none = rw (clock-at text d rest v, none) refl

empty_not : (cs : List ℕ) → 0 < length cs → is_empty cs ≡ false
empty_not [] h = absurd (omega arith)
empty_not (c ∷ cs) h = refl

some_first : (cs : List ℕ) → is_empty cs ≡ false → 0 < length cs
some_first [] h = cc
some_first (c ∷ cs) h = omega arith

empty-nil : (cs : List ℕ) → is_empty cs ≡ true → cs ≡ []
empty-nil [] h = refl
empty-nil (c ∷ cs) h = cc

pub front-fraction : (text : List ℕ) (d : Duration) (rest : List ℕ) → IsFraction text d rest → front_at text ≡ Some (record { duration = d; has_fraction = true; rest = rest })
front-fraction text d rest v =
    rw (clock-at text v.seconds v.behind_seconds v.values, begins-behind comma v.behind_seconds v.tail refl v.sign, number-at v.tail v.fraction rest v.last, empty_not v.fraction v.last.some, v.value) refl

pub record HasFraction (text : List ℕ) (f : Front) : Type 0 where
  pub has : f.has_fraction ≡ true
  pub parts : IsFraction text f.duration f.rest

pub record HasNone (text : List ℕ) (f : Front) : Type 0 where
  pub hasnt : f.has_fraction ≡ false
  pub values : IsClock text f.duration f.rest
  pub no_comma : behind comma f.rest ≡ None

fraction-of : (d : Duration) (p : List ℕ × List ℕ) (f : Front) → fraction_front d p ≡ Some f → (is_empty p.0 ≡ false) × (f ≡ record { duration = record d { milliseconds = milliseconds p.0 }; has_fraction = true; rest = p.1 })
fraction-of d p f h = go (is_empty p.0) refl
  where
    go : (b : Bool) → is_empty p.0 ≡ b → (is_empty p.0 ≡ false) × (f ≡ record { duration = record d { milliseconds = milliseconds p.0 }; has_fraction = true; rest = p.1 })
    go true e = let none : fraction_front d p ≡ None = rw e refl in cc
    go false e = (e, some-same _ _ (sym h ∙ rw e refl))

pub front-of : (text : List ℕ) (f : Front) → front_at text ≡ Some f → HasFraction text f ⊎ HasNone text f
front-of text f h = go (behind comma a.x.1) refl a.gives
  where
    a : Through (λ p. with_fraction p.0 p.1 (behind comma p.1)) (clock_at text) f
    a = through (λ p. with_fraction p.0 p.1 (behind comma p.1)) (clock_at text) f h

    values : IsClock text a.x.0 a.x.1
    values = clock-of text a.x a.was

    go : (o : Option (List ℕ)) → behind comma a.x.1 ≡ o → with_fraction a.x.0 a.x.1 o ≡ Some f → HasFraction text f ⊎ HasNone text f
    go None e g =
        let plain : Front = record { duration = a.x.0; has_fraction = false; rest = a.x.1 } in
        let same : plain ≡ f = some-same plain f g in
        let none : HasNone text plain = record { hasnt = refl; values = values; no_comma = e } in
        inr (rw same at none)
    go (Some tail) e g =
        let b = through (fraction_front a.x.0) (digits_at tail) f g in
        let p = fraction-of a.x.0 b.x f b.gives in
        let whole : Front = record { duration = record a.x.0 { milliseconds = milliseconds b.x.0 }; has_fraction = true; rest = b.x.1 } in
        let found : HasFraction text whole = record {
          has = refl;
          parts = record {
            seconds = a.x.0;
            behind_seconds = a.x.1;
            fraction = b.x.0;
            tail = tail;
            values = values;
            sign = behind-begins comma a.x.1 tail e;
            last = number-of tail b.x.0 b.x.1 b.was (some_first b.x.0 p.0);
            value = refl;
          };
        } in
        let same : whole ≡ f = sym p.1 in
        inl (rw same at found)

-- a whole duration

pub duration-bounded : (text : List ℕ) (d : Duration) → IsDuration text d → duration_read text ≡ check_bounds d
duration-bounded text d (inl v) = rw (front-clock text d [] v refl) refl
duration-bounded text d (inr v) = rw (front-fraction text d v.gap v.parts, v.space) refl

pub record Found (text : List ℕ) : Type 0 where
  pub duration : Duration
  pub parts : IsDuration text duration

ended : (text : List ℕ) (f : Front) → is_ended f ≡ true → HasFraction text f ⊎ HasNone text f → Found text
ended text f e (inl v) =
    record { duration = f.duration; parts = inr (record { gap = f.rest; parts = v.parts; space = rw v.has at e }) }
ended text f e (inr v) =
    let nothing : f.rest ≡ [] = empty-nil f.rest (rw v.hasnt at e) in
    let values : IsClock text f.duration [] = rw nothing at v.values in
    record { duration = f.duration; parts = inl values }

pub decide : (text : List ℕ) → Found text ⊎ (duration_read text ≡ Err Malformed)
decide text = go (front_at text) refl
  where
    by : (f : Front) → front_at text ≡ Some f → (b : Bool) → is_ended f ≡ b → Found text ⊎ (duration_read text ≡ Err Malformed)
    by f e true g = inl (ended text f g (front-of text f e))
    by f e false g = inr (rw (e, g) refl)

    go : (o : Option Front) → front_at text ≡ o → Found text ⊎ (duration_read text ≡ Err Malformed)
    go None e = inr (rw e refl)
    go (Some f) e = by f e (is_ended f) refl

bounded-ok : (d : Duration) → is_too_large d ≡ false → check_bounds d ≡ Ok d
bounded-ok d h = rw h refl

bounded-large : (d : Duration) → is_too_large d ≡ true → check_bounds d ≡ Err TooLarge
bounded-large d h = rw h refl

-- what is read has its parts
pub reads-as : (text : List ℕ) (d : Duration) → duration_read text ≡ Ok d → ReadsAs text d
reads-as text d h = go (decide text)
  where
    same : (x : Duration) → IsDuration text x → (b : Bool) → is_too_large x ≡ b → ReadsAs text d
    same x v true e = let clash = duration-bounded text x v ∙ bounded-large x e in cc
    same x v false e =
        let all = duration-bounded text x v ∙ bounded-ok x e in
        let eq : x ≡ d = cc in
        let there : ReadsAs text x = (v, e) in
        rw eq at there

    go : Found text ⊎ (duration_read text ≡ Err Malformed) → ReadsAs text d
    go (inl f) = same f.duration f.parts (is_too_large f.duration) refl
    go (inr m) = cc

pub as-reads : (text : List ℕ) (d : Duration) → ReadsAs text d → duration_read text ≡ Ok d
as-reads text d r = duration-bounded text d r.0 ∙ bounded-ok d r.1

pub reads-large : (text : List ℕ) → duration_read text ≡ Err TooLarge → ReadsTooLarge text
reads-large text h = go (decide text)
  where
    same : (x : Duration) → IsDuration text x → (b : Bool) → is_too_large x ≡ b → ReadsTooLarge text
    same x v true e = (x, v, e)
    same x v false e = let clash = duration-bounded text x v ∙ bounded-ok x e in cc

    go : Found text ⊎ (duration_read text ≡ Err Malformed) → ReadsTooLarge text
    go (inl f) = same f.duration f.parts (is_too_large f.duration) refl
    go (inr m) = cc

pub large-reads : (text : List ℕ) → ReadsTooLarge text → duration_read text ≡ Err TooLarge
large-reads text r = duration-bounded text r.0 r.1 ∙ bounded-large r.0 r.2

bounded-not : (d : Duration) → check_bounds d ≡ Err Malformed → ⊥
bounded-not d h = go (is_too_large d) refl
  where
    go : (b : Bool) → is_too_large d ≡ b → ⊥
    go true e = let clash = bounded-large d e in cc
    go false e = let clash = bounded-ok d e in cc

pub malformed-reads : (text : List ℕ) → duration_read text ≡ Err Malformed → ¬ ((d : Duration) × IsDuration text d)
malformed-reads text h f = bounded-not f.0 (sym (duration-bounded text f.0 f.1) ∙ h)

pub reads-malformed : (text : List ℕ) → ¬ ((d : Duration) × IsDuration text d) → duration_read text ≡ Err Malformed
reads-malformed text h = go (decide text)
  where
    go : Found text ⊎ (duration_read text ≡ Err Malformed) → duration_read text ≡ Err Malformed
    go (inl f) = absurd (h (f.duration, f.parts))
    go (inr m) = m

-- a range

-- a start is read as such
pub record StartAt (text : List ℕ) (d : Duration) (rest : List ℕ) : Type 0 where
  pub front : Front
  pub was : front_at text ≡ Some front
  pub starts : is_start front ≡ true
  pub duration : front.duration ≡ d
  pub left : front.rest ≡ rest

or_true : (a : Bool) → (a || true) ≡ true
or_true true = refl
or_true false = refl

no_comma : (rest tail : List ℕ) → skip_leading_whitespace rest ≡ hyphen ∷ tail → behind comma rest ≡ None
no_comma rest tail e = rw e refl

hyphen-first : (rest tail : List ℕ) → BeginsWith (hyphen ∷ []) rest tail → skip_leading_whitespace rest ≡ hyphen ∷ tail
hyphen-first rest tail s = begins-skip (hyphen ∷ []) rest tail refl s

start-at : (text : List ℕ) (d : Duration) (rest : List ℕ) → IsStart text d rest → StartAt text d rest
start-at text d rest (inl v) =
    let none : behind comma rest ≡ None = rw v.1 refl in
    record {
      front = record { duration = d; has_fraction = false; rest = rest };
      was = front-clock text d rest v.0 none;
      starts = rw v.1 refl;
      duration = refl;
      left = refl;
    }
start-at text d rest (inr (inl v)) =
    let first = hyphen-first rest v.tail v.sign in
    let some : is_some (behind hyphen rest) ≡ true = rw first refl in
    record {
      front = record { duration = d; has_fraction = false; rest = rest };
      was = front-clock text d rest v.values (no_comma rest v.tail first);
      starts = rw some (or_true (is_empty rest));
      duration = refl;
      left = refl;
    }
start-at text d rest (inr (inr v)) = record {
  front = record { duration = d; has_fraction = true; rest = rest };
  was = front-fraction text d rest v;
  starts = refl;
  duration = refl;
  left = refl;
}

some_from : {A : Type 0} (o : Option A) → is_some o ≡ true → (x : A) × (o ≡ Some x)
some_from None h = cc
some_from (Some x) h = (x, refl)

start-of : (text : List ℕ) (f : Front) → front_at text ≡ Some f → is_start f ≡ true → IsStart text f.duration f.rest
start-of text f h s = go (front-of text f h)
  where
    plain : (v : HasNone text f) → (b : Bool) → is_empty f.rest ≡ b → IsStart text f.duration f.rest
    plain v true e = inl (v.values, empty-nil f.rest e)
    plain v false e =
        let some : is_some (behind hyphen f.rest) ≡ true = rw (v.hasnt, e) at s in
        let p = some_from (behind hyphen f.rest) some in
        inr (inl (record { values = v.values; tail = p.0; sign = behind-begins hyphen f.rest p.0 p.1 }))

    go : HasFraction text f ⊎ HasNone text f → IsStart text f.duration f.rest
    go (inl v) = inr (inr v.parts)
    go (inr v) = plain v (is_empty f.rest) refl

-- what is read once there is a start
range-start : (text : List ℕ) (d : Duration) (rest : List ℕ) → IsStart text d rest → range_read text ≡ range_from (check_bounds d) rest
range-start text d rest v =
    let a = start-at text d rest v in
    let read : range_read text ≡ range_from (check_bounds a.front.duration) a.front.rest = rw (a.was, a.starts) refl in
    read ∙ (λ i. range_from (check_bounds (a.duration i)) (a.left i))

pub range-large : (text : List ℕ) → HasLargeStart text → range_read text ≡ Err TooLarge
range-large text (d, rest, v, large) = range-start text d rest v ∙ ap (λ b. range_from b rest) (bounded-large d large)

whole-start : (text : List ℕ) (d : Duration) → IsDuration text d → (rest : List ℕ) × IsStart text d rest × IsBlank rest
whole-start text d (inl v) = ([], inl (v, refl), refl)
whole-start text d (inr v) = (v.gap, inr (inr v.parts), v.space)

pub range-one : (text : List ℕ) (r : DurationRange) → IsOneDuration text r → range_read text ≡ Ok r
range-one text r v =
    let w = whole-start text r.start v.start.0 in
    let read = range-start text r.start w.0 w.1 ∙ ap (λ b. range_from b w.0) (bounded-ok r.start v.start.1) in
    let one : range_from (Ok r.start) w.0 ≡ Ok (record { start = r.start; end = r.start }) = rw w.2 refl in
    let same : record { start = r.start; end = r.start } ≡ r = λ i. record { start = r.start; end = sym v.same i } in
    read ∙ one ∙ ap Ok same

pub range-two : (text : List ℕ) (start : Duration) (end_text : List ℕ) → HasTwoTexts text start end_text → is_too_large start ≡ false → range_read text ≡ range_to start (duration_read end_text)
range-two text start end_text v bounds =
    let first = hyphen-first v.rest v.tail v.sign in
    let tail : behind_run (λ c. c == hyphen) v.tail ≡ end_text = ap (behind_run (λ c. c == hyphen)) v.cut ∙ behind_run-of (λ c. c == hyphen) v.hyphens end_text v.more v.all_hyphens in
    let more = blank_by_rest v.rest ∙ ap is_empty first in
    let longer : range_from (Ok start) v.rest ≡ range_to start (duration_read (behind_run (λ c. c == hyphen) v.tail)) = rw (more, first) refl in
    range-start text start v.rest v.front ∙ ap (λ b. range_from b v.rest) (bounded-ok start bounds) ∙ longer ∙ ap (λ t. range_to start (duration_read t)) tail

-- what a range's text is

pub record TwoFound (text : List ℕ) : Type 0 where
  pub start : Duration
  pub end_text : List ℕ
  pub texts : HasTwoTexts text start end_text
  pub bounds : is_too_large start ≡ false

pub record OneFound (text : List ℕ) : Type 0 where
  pub duration : Duration
  pub reads : ReadsAs text duration

abbrev pub RangeFound : List ℕ → Type 0
RangeFound text = HasLargeStart text ⊎ OneFound text ⊎ TwoFound text

-- a start with nothing but white space behind it, and without any where it has no fraction
whole-of : (text : List ℕ) (f : Front) → front_at text ≡ Some f → is_start f ≡ true → IsBlank f.rest → IsDuration text f.duration
whole-of text f h s blank = go (front-of text f h)
  where
    plain : (v : HasNone text f) → (b : Bool) → is_empty f.rest ≡ b → IsDuration text f.duration
    plain v true e =
        let nothing : f.rest ≡ [] = empty-nil f.rest e in
        let values : IsClock text f.duration [] = rw nothing at v.values in
        inl values
    plain v false e =
        let some : is_some (behind hyphen f.rest) ≡ true = rw (v.hasnt, e) at s in
        let none : is_some (behind hyphen f.rest) ≡ false = rw (blank-skipped f.rest blank) refl in
        cc

    go : HasFraction text f ⊎ HasNone text f → IsDuration text f.duration
    go (inl v) = inr (record { gap = f.rest; parts = v.parts; space = blank })
    go (inr v) = plain v (is_empty f.rest) refl

pub range-decide : (text : List ℕ) → RangeFound text ⊎ (range_read text ≡ Err Malformed)
range-decide text = go (front_at text) refl
  where
    two : (f : Front) → front_at text ≡ Some f → is_start f ≡ true → is_too_large f.duration ≡ false → list_all is_whitespace f.rest ≡ false → (o : Option (List ℕ)) → behind hyphen f.rest ≡ o → RangeFound text ⊎ (range_read text ≡ Err Malformed)
    two f e s b n None g =
        let v = start-of text f e s in
        inr (range-start text f.duration f.rest v ∙ ap (λ x. range_from x f.rest) (bounded-ok f.duration b) ∙ rw (n, g) refl)
    two f e s b n (Some tail) g = inl (inr (inr (record {
      start = f.duration;
      end_text = behind_run (λ c. c == hyphen) tail;
      texts = record {
        rest = f.rest;
        tail = tail;
        hyphens = run (λ c. c == hyphen) tail;
        front = start-of text f e s;
        sign = behind-begins hyphen f.rest tail g;
        cut = run-behind_run (λ c. c == hyphen) tail;
        more = all-run (λ c. c == hyphen) tail;
        all_hyphens = behind_run-stops (λ c. c == hyphen) tail;
      };
      bounds = b;
    })))

    fits : (f : Front) → front_at text ≡ Some f → is_start f ≡ true → is_too_large f.duration ≡ false → (n : Bool) → list_all is_whitespace f.rest ≡ n → RangeFound text ⊎ (range_read text ≡ Err Malformed)
    fits f e s b true n = inl (inr (inl (record { duration = f.duration; reads = (whole-of text f e s n, b) })))
    fits f e s b false n = two f e s b n (behind hyphen f.rest) refl

    starts : (f : Front) → front_at text ≡ Some f → is_start f ≡ true → (b : Bool) → is_too_large f.duration ≡ b → RangeFound text ⊎ (range_read text ≡ Err Malformed)
    starts f e s true b = inl (inl (f.duration, f.rest, start-of text f e s, b))
    starts f e s false b = fits f e s b (list_all is_whitespace f.rest) refl

    by : (f : Front) → front_at text ≡ Some f → (s : Bool) → is_start f ≡ s → RangeFound text ⊎ (range_read text ≡ Err Malformed)
    by f e true s = starts f e s (is_too_large f.duration) refl
    by f e false s = inr (rw (e, s) refl)

    go : (o : Option Front) → front_at text ≡ o → RangeFound text ⊎ (range_read text ≡ Err Malformed)
    go None e = inr (rw e refl)
    go (Some f) e = by f e (is_start f) refl

-- each text is one of these
pub data RangeKind (text : List ℕ) : Type 0 where
  of_range : (r : DurationRange) → ReadsAsRange text r → range_read text ≡ Ok r → RangeKind text
  of_large : RangeTooLarge text → range_read text ≡ Err TooLarge → RangeKind text
  of_malformed : range_read text ≡ Err Malformed → RangeKind text

pub range-kind : (text : List ℕ) → RangeKind text
range-kind text = go (range-decide text)
  where
    two : (v : TwoFound text) → (o : Result Duration DurationError) → duration_read v.end_text ≡ o → RangeKind text
    two v (Ok e) g =
        let r : DurationRange = record { start = v.start; end = e } in
        of_range r (inr (record { end_text = v.end_text; texts = v.texts; bounds = v.bounds; end = reads-as v.end_text e g }))
        (range-two text v.start v.end_text v.texts v.bounds ∙ ap (range_to v.start) g)
    two v (Err Malformed) g = of_malformed (range-two text v.start v.end_text v.texts v.bounds ∙ ap (range_to v.start) g)
    two v (Err TooLarge) g = of_large (inr (record { start = v.start; end_text = v.end_text; texts = v.texts; bounds = v.bounds; large = reads-large v.end_text g }))
        (range-two text v.start v.end_text v.texts v.bounds ∙ ap (range_to v.start) g)

    go : RangeFound text ⊎ (range_read text ≡ Err Malformed) → RangeKind text
    go (inl (inl v)) = of_large (inl v) (range-large text v)
    go (inl (inr (inl v))) =
        let r : DurationRange = record { start = v.duration; end = v.duration } in
        let one : IsOneDuration text r = record { start = v.reads; same = refl } in
        of_range r (inl one) (range-one text r one)
    go (inl (inr (inr v))) = two v (duration_read v.end_text) refl
    go (inr m) = of_malformed m

pub as-range-reads : (text : List ℕ) (r : DurationRange) → ReadsAsRange text r → range_read text ≡ Ok r
as-range-reads text r (inl v) = range-one text r v
as-range-reads text r (inr v) = range-two text r.start v.end_text v.texts v.bounds ∙ ap (range_to r.start) (as-reads v.end_text r.end v.end)

pub large-range-reads : (text : List ℕ) → RangeTooLarge text → range_read text ≡ Err TooLarge
large-range-reads text (inl v) = range-large text v
large-range-reads text (inr v) = range-two text v.start v.end_text v.texts v.bounds ∙ ap (range_to v.start) (large-reads v.end_text v.large)

pub range-reads-as : (text : List ℕ) (r : DurationRange) → range_read text ≡ Ok r → ReadsAsRange text r
range-reads-as text r h = go (range-kind text)
  where
    go : RangeKind text → ReadsAsRange text r
    go (of_range s v e) = let same : s ≡ r = cc in rw same at v
    go (of_large v e) = cc
    go (of_malformed e) = cc

pub range-reads-large : (text : List ℕ) → range_read text ≡ Err TooLarge → RangeTooLarge text
range-reads-large text h = go (range-kind text)
  where
    go : RangeKind text → RangeTooLarge text
    go (of_range s v e) = cc
    go (of_large v e) = v
    go (of_malformed e) = cc

pub malformed-range-reads : (text : List ℕ) → range_read text ≡ Err Malformed → ¬ (((r : DurationRange) × ReadsAsRange text r) ⊎ RangeTooLarge text)
malformed-range-reads text h (inl v) = let clash = as-range-reads text v.0 v.1 in cc
malformed-range-reads text h (inr v) = let clash = large-range-reads text v in cc

pub range-reads-malformed : (text : List ℕ) → ¬ (((r : DurationRange) × ReadsAsRange text r) ⊎ RangeTooLarge text) → range_read text ≡ Err Malformed
range-reads-malformed text h = go (range-kind text)
  where
    go : RangeKind text → range_read text ≡ Err Malformed
    go (of_range s v e) = absurd (h (inl (s, v)))
    go (of_large v e) = absurd (h (inr v))
    go (of_malformed e) = e
