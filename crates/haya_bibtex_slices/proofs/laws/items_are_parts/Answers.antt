use Rattle.haya_bibtex_slices.proofs.PartsOf.{parts_in_order}
use Rattle.haya_bibtex_slices.proofs.laws.items_are_parts.Goals as goal

pub returns : goal.returns
returns c = λ text items are. parts_in_order items text are.parts
