use Rattle.std.proofs.Common.{rules}
use Rattle.haya_time.proofs.DurationScans.{digits-cut}
use Rattle.haya_time.proofs.duration.scan.skip_digits.Goals as goal

pub returns-then-not-is_ascii_digit-clause-cut : goal.returns-then-not-is_ascii_digit-clause-cut
returns-then-not-is_ascii_digit-clause-cut c = digits-cut _ _ c.utf8.text c.digits.invariant.text (search rules)

pub returns-clause-cut : goal.returns-clause-cut
returns-clause-cut c = digits-cut _ _ c.utf8.text c.digits.invariant.text (search rules)
