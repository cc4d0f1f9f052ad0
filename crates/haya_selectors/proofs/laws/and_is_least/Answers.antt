use Rattle.haya_selectors.specs.Holds.{table_of}
use Rattle.haya_selectors.proofs.laws.and_is_least.Goals as goal

pub returns : goal.returns
returns c = λ members xs positions e. c.least_comes_first.ensures (table_of members xs) positions e
