use Rattle.haya_numbers.proofs.Equal.{numeric-tells}
use Rattle.haya_numbers.proofs.PagesEqual.{pages-tell, part-tells}
use Rattle.haya_numbers.proofs.laws.pages.equal_by_value.Goals as goal

pub returns : goal.returns
returns c = record { part = part-tells numeric-tells; pages = pages-tell numeric-tells }
