use Rattle.haya_csl.proofs.ItemLists.{library_of_list, pushed_of_list}
use Rattle.haya_csl.proofs.laws.lists_are_libraries.Goals as goal

pub returns : goal.returns
returns c = record { pushed = pushed_of_list; distinct = library_of_list }
