use Rattle.haya_csl.proofs.ItemLists.{lines_of_list, list_of_lines, notes_of_lines}
use Rattle.haya_csl.proofs.laws.item_lines_are_a_list.Goals as goal

pub returns : goal.returns
returns c = record { list = list_of_lines; notes = notes_of_lines; lines = lines_of_list }
