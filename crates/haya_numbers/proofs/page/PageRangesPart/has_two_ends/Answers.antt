use Rattle.haya_numbers.proofs.Equal.{numeric-tells}
use Rattle.haya_numbers.proofs.PartLemmas.{two_ends}
use Rattle.haya_numbers.proofs.page.PageRangesPart.has_two_ends.Goals as goal

pub returns-in-Some-Some : goal.returns-in-Some-Some
returns-in-Some-Some c =
    two_ends _ _ _ _ _ c.in-Some-Some.ensures c.in-Some-Some.ensures' c.ne.ensures (numeric-tells c.in-Some-Some.start.now c.in-Some-Some.end.now)
