use Rattle.std.proofs.Common.{refl}
use Rattle.std.proofs.lemmas.Result.{MatchResult-at_ok, MatchResult-at_err}
use Rattle.haya_numbers.proofs.Magnitudes.{kept_magnitude, parse-magnitude}
use Rattle.haya_numbers.proofs.numeric.reading.eat_magnitude.Goals as goal

pub returns-in-Ok-clause-value : goal.returns-in-Ok-clause-value
returns-in-Ok-clause-value c =
    let p = MatchResult-at_ok _ _ _ c.in-Ok.is (parse-magnitude _ _ c.eat_run-digits.utf8 c.eat_run-digits.ensures.run c.parse.result c.parse.ensures.value.0) in
    (p.0, kept_magnitude p.0 _ p.2 p.1, p.3)

pub returns-in-Err-clause-fault : goal.returns-in-Err-clause-fault
returns-in-Err-clause-fault c =
    (refl, MatchResult-at_err _ _ _ c.in-Err.is (parse-magnitude _ _ c.eat_run-digits.utf8 c.eat_run-digits.ensures.run c.parse.result c.parse.ensures.value.0))
