use Rattle.haya_csl.proofs.ItemLists.{list_of_library}
use Rattle.haya_csl.proofs.laws.libraries_are_lists.Goals as goal

pub returns : goal.returns
returns c = list_of_library
