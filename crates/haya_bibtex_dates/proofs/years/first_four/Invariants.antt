use Rattle.std.proofs.Common.{◌≡◌, drop, map}
use Rattle.haya_bibtex_dates.specs.Digits.{four_digits}
use Rattle.haya_bibtex_dates.specs.Years.{first_told}
use Rattle.haya_bibtex_dates.proofs.years.first_four.Given as goal

-- no run so far has four digits
abbrev pub invariant-runs : goal.invariant-runs
invariant-runs l =
    first_told four_digits (map (λ p. p.now) l.runs) ≡ first_told four_digits (map (λ p. p.now) (drop l.run-index l.runs))
