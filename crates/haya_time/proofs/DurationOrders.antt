-- Equality and order of durations go by all their values.
use Rattle.std.proofs.Common.{◌≡◌, ℕ, ◌==◌, nat_lt, Bool, true, false, refl, ap, sym, ◌∙◌, arith, eqb-true, eq-eqb}
use Rattle.std.proofs.lemmas.Bool.Decides.{nat_tests}
use Rattle.std.specs.declared.cmp.Ordering.{Ordering}
use Rattle.std.specs.declared.cmp.Ordering.TheVariants.{Less, Equal, Greater}
use Rattle.std.specs.Ordering.{nat_cmp, ordering_then}
use Rattle.haya_time.specs.declared.duration.Duration.{Duration}
use Rattle.haya_time.specs.declared.duration.range.DurationRange.{DurationRange}
use Rattle.haya_time.specs.contracts.duration.DurationPartialEq.TheImpl as duration
use Rattle.haya_time.specs.contracts.duration.range.DurationRangePartialEq.TheImpl as range
use Rattle.haya_time.specs.DurationOrder.{duration_cmp, total_milliseconds}
use Rattle.haya_text.proofs.Tells.{and-both}

from_values : (a b : Duration) → a.days ≡ b.days → a.hours ≡ b.hours → a.minutes ≡ b.minutes → a.seconds ≡ b.seconds → a.milliseconds ≡ b.milliseconds → a ≡ b
from_values a b d h m s ms i = record { days = d i; hours = h i; minutes = m i; seconds = s i; milliseconds = ms i }

pub eq-same : (a b : Duration) → duration.ghosts.eq a b ≡ true → a ≡ b
eq-same a b h =
    let p = and-both (a.days == b.days) _ h in
    let q = and-both (a.hours == b.hours) _ p.1 in
    let r = and-both (a.minutes == b.minutes) _ q.1 in
    let s = and-both (a.seconds == b.seconds) _ r.1 in
    from_values a b (eqb-true _ _ p.0) (eqb-true _ _ q.0) (eqb-true _ _ r.0) (eqb-true _ _ s.0) (eqb-true _ _ s.1)

eq-itself : (a : Duration) → duration.ghosts.eq a a ≡ true
eq-itself a = rw (eq-eqb a.days a.days refl, eq-eqb a.hours a.hours refl, eq-eqb a.minutes a.minutes refl, eq-eqb a.seconds a.seconds refl, eq-eqb a.milliseconds a.milliseconds refl) refl

pub same-eq : (a b : Duration) → a ≡ b → duration.ghosts.eq a b ≡ true
same-eq a b e = ap (duration.ghosts.eq a) (sym e) ∙ eq-itself a

pub range_eq-same : (a b : DurationRange) → range.ghosts.eq a b ≡ true → a ≡ b
range_eq-same a b h =
    let p = and-both (duration.ghosts.eq a.start b.start) (duration.ghosts.eq a.end b.end) h in
    let s = eq-same a.start b.start p.0 in
    let e = eq-same a.end b.end p.1 in
    λ i. record { start = s i; end = e i }

range_eq-itself : (a : DurationRange) → range.ghosts.eq a a ≡ true
range_eq-itself a = rw (eq-itself a.start, eq-itself a.end) refl

pub same-range_eq : (a b : DurationRange) → a ≡ b → range.ghosts.eq a b ≡ true
same-range_eq a b e = ap (range.ghosts.eq a) (sym e) ∙ range_eq-itself a

then-equal : (o p : Ordering) → ordering_then o p ≡ Equal → (o ≡ Equal) × (p ≡ Equal)
then-equal Less p h = cc
then-equal Equal p h = (refl, h)
then-equal Greater p h = cc

nat_cmp-equal : (x y : ℕ) → nat_cmp x y ≡ Equal → x ≡ y
nat_cmp-equal x y h = go (nat_lt x y) refl (x == y) refl
  where
    go : (a : Bool) → nat_lt x y ≡ a → (b : Bool) → (x == y) ≡ b → x ≡ y
    go true e b f = let less : nat_cmp x y ≡ Less = rw e refl in cc
    go false e true f = grind (arith, nat_tests)
    go false e false f = let greater : nat_cmp x y ≡ Greater = rw (e, f) refl in cc

nat_cmp-itself : (x : ℕ) → nat_cmp x x ≡ Equal
nat_cmp-itself x =
    let l : nat_lt x x ≡ false = grind (arith, nat_tests) in
    rw (l, eq-eqb x x refl) refl

pub equal-same : (a b : Duration) → duration_cmp a b ≡ Equal → a ≡ b
equal-same a b h =
    let p = then-equal (nat_cmp (total_milliseconds a) (total_milliseconds b)) _ h in
    let q = then-equal (nat_cmp a.days b.days) _ p.1 in
    let r = then-equal (nat_cmp a.hours b.hours) _ q.1 in
    let s = then-equal (nat_cmp a.minutes b.minutes) _ r.1 in
    let t = then-equal (nat_cmp a.seconds b.seconds) _ s.1 in
    from_values a b (nat_cmp-equal _ _ q.0) (nat_cmp-equal _ _ r.0) (nat_cmp-equal _ _ s.0) (nat_cmp-equal _ _ t.0) (nat_cmp-equal _ _ t.1)

equal-itself : (a : Duration) → duration_cmp a a ≡ Equal
equal-itself a = rw (nat_cmp-itself (total_milliseconds a), nat_cmp-itself a.days, nat_cmp-itself a.hours, nat_cmp-itself a.minutes, nat_cmp-itself a.seconds) (nat_cmp-itself a.milliseconds)

pub same-equal : (a b : Duration) → a ≡ b → duration_cmp a b ≡ Equal
same-equal a b e = ap (duration_cmp a) (sym e) ∙ equal-itself a
