-- The order of durations.
use Rattle.std.specs.Prelude.{ℕ, ◌+◌, ◌*◌}
use Rattle.std.specs.declared.cmp.Ordering.{Ordering}
use Rattle.std.specs.Cmp.{IsTotalOrder, then_total, on_total, nat_cmp_total}
use Rattle.std.specs.Ordering.{nat_cmp, on, then_cmp}
use Rattle.haya_time.specs.declared.duration.Duration.{Duration}

-- the whole length in milliseconds
abbrev pub total_milliseconds : Duration → ℕ
total_milliseconds d =
    (((d.days * 24 + d.hours) * 60 + d.minutes) * 60 + d.seconds) * 1000 + d.milliseconds

-- by the whole length, then by each value, the greatest unit first
abbrev pub duration_cmp : Duration → Duration → Ordering
duration_cmp = then_cmp (on total_milliseconds nat_cmp) (then_cmp (on (λ d. d.days) nat_cmp)
    (then_cmp (on (λ d. d.hours) nat_cmp) (then_cmp (on (λ d. d.minutes) nat_cmp)
    (then_cmp (on (λ d. d.seconds) nat_cmp) (on (λ d. d.milliseconds) nat_cmp)))))

pub IsTotalOrder-duration_cmp : IsTotalOrder duration_cmp
IsTotalOrder-duration_cmp =
    then_total (on_total total_milliseconds nat_cmp_total)
    (then_total (on_total (λ d. d.days) nat_cmp_total)
    (then_total (on_total (λ d. d.hours) nat_cmp_total)
    (then_total (on_total (λ d. d.minutes) nat_cmp_total)
    (then_total (on_total (λ d. d.seconds) nat_cmp_total)
    (on_total (λ d. d.milliseconds) nat_cmp_total)))))
