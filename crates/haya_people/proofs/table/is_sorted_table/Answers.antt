use Rattle.haya_people.proofs.TableLemmas.{sorted_table-is_sorted}
use Rattle.haya_people.proofs.table.is_sorted_table.Goals as goal

pub returns : goal.returns
returns c = sorted_table-is_sorted _ _ c.is_sorted.ensures.cases
