use Rattle.haya_numbers.proofs.HalfLaws.{escaped-halves, plain-halves}
use Rattle.haya_numbers.proofs.laws.pages.halves.Goals as goal

pub returns : goal.returns
returns c = record { escaped = escaped-halves; plain = plain-halves }
