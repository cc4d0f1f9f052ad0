-- Durations and ranges that were read are read again from their print.
use Rattle.std.proofs.Common.{◌≡◌, ℕ, ◌<◌, ◌^◌, Bool, true, false, nat_lt, List, inl, inr, refl, Ok, arith}
use Rattle.std.proofs.lemmas.Bool.Decides.{nat_tests}
use Rattle.std.specs.Prelude.{◌||◌}
use Rattle.std.specs.Str.{chars}
use Rattle.haya_time.specs.declared.duration.Duration.{Duration}
use Rattle.haya_time.specs.declared.duration.range.DurationRange.{DurationRange}
use Rattle.haya_time.specs.DurationBack.{reads_back}
use Rattle.haya_time.specs.DurationGrammar.{IsClock, IsFraction, IsStart, IsDuration, ReadsAs, ReadsAsRange}
use Rattle.haya_time.specs.DurationPrint.{duration_text, range_text}
use Rattle.haya_time.specs.DurationReading.{duration_read, range_read}
use Rattle.haya_time.specs.DurationValues.{is_too_large}
use Rattle.haya_time.proofs.DurationBacks.{duration-read_back, range-read_back}
use Rattle.haya_time.proofs.DurationLaws.{reads-as, range-reads-as}

-- no value is above the one that it is carried from
clock_days : (text : List ℕ) (d : Duration) (rest : List ℕ) → IsClock text d rest → d.days < 2 ^ 32
clock_days text d rest (inl m) = rw m.value (omega (arith, m.fits))
clock_days text d rest (inr (inl h)) = rw h.value (omega (arith, h.fits))
clock_days text d rest (inr (inr days)) = rw days.value days.fits

fraction_days : (text : List ℕ) (d : Duration) (rest : List ℕ) → IsFraction text d rest → d.days < 2 ^ 32
fraction_days text d rest f = rw f.value (clock_days text f.seconds f.behind_seconds f.values)

duration_days : (text : List ℕ) (d : Duration) → IsDuration text d → d.days < 2 ^ 32
duration_days text d (inl values) = clock_days text d _ values
duration_days text d (inr f) = fraction_days text d f.gap f.parts

start_days : (text : List ℕ) (d : Duration) (rest : List ℕ) → IsStart text d rest → d.days < 2 ^ 32
start_days text d rest (inl values) = clock_days text d rest values.0
start_days text d rest (inr (inl before)) = clock_days text d rest before.values
start_days text d rest (inr (inr f)) = fraction_days text d rest f

neither : (a b : Bool) → (a || b) ≡ false → (a ≡ false) × (b ≡ false)
neither false b h = (refl, h)
neither true b h = cc

bounded : (d : Duration) → is_too_large d ≡ false → reads_back d ≡ true
bounded d h =
    let p = neither (nat_lt 23 d.hours || nat_lt 59 d.minutes || nat_lt 59 d.seconds) (nat_lt 999 d.milliseconds) h in
    let q = neither (nat_lt 23 d.hours || nat_lt 59 d.minutes) (nat_lt 59 d.seconds) p.0 in
    let r = neither (nat_lt 23 d.hours) (nat_lt 59 d.minutes) q.0 in
    let hours : nat_lt d.hours 24 ≡ true = grind (arith, nat_tests, r.0) in
    let minutes : nat_lt d.minutes 60 ≡ true = grind (arith, nat_tests, r.1) in
    let seconds : nat_lt d.seconds 60 ≡ true = grind (arith, nat_tests, q.1) in
    let milliseconds : nat_lt d.milliseconds 1000 ≡ true = grind (arith, nat_tests, p.1) in
    rw (hours, minutes, seconds, milliseconds) refl

-- what a text reads as has values in their bounds
was_duration : (text : List ℕ) (d : Duration) → ReadsAs text d → (d.days < 2 ^ 32) × (reads_back d ≡ true)
was_duration text d r = (duration_days text d r.0, bounded d r.1)

pub duration_kept : (text : List ℕ) (d : Duration) → duration_read text ≡ Ok d → duration_read (chars (duration_text d)) ≡ Ok d
duration_kept text d h = let w = was_duration text d (reads-as text d h) in duration-read_back d w.0 w.1

both_back : (r : DurationRange) → (r.start.days < 2 ^ 32) × (reads_back r.start ≡ true) → (r.end.days < 2 ^ 32) × (reads_back r.end ≡ true) → range_read (chars (range_text r)) ≡ Ok r
both_back r s e = range-read_back r s.0 e.0 (rw (s.1, e.1) refl)

pub ends_kept : (first second : List ℕ) (r : DurationRange) → duration_read first ≡ Ok r.start → duration_read second ≡ Ok r.end → range_read (chars (range_text r)) ≡ Ok r
ends_kept first second r s e = both_back r (was_duration first r.start (reads-as first r.start s)) (was_duration second r.end (reads-as second r.end e))

pub range_kept : (text : List ℕ) (r : DurationRange) → range_read text ≡ Ok r → range_read (chars (range_text r)) ≡ Ok r
range_kept text r h = by (range-reads-as text r h)
  where
    by : ReadsAsRange text r → range_read (chars (range_text r)) ≡ Ok r
    by (inl one) =
        let start = was_duration text r.start one.start in
        both_back r start (rw one.same start)
    by (inr two) = both_back r (start_days text r.start two.texts.rest two.texts.front, bounded r.start two.bounds) (was_duration two.end_text r.end two.end)
