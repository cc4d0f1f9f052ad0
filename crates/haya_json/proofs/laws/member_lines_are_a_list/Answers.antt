use Rattle.haya_json.proofs.MemberLists.{lines_of_list, list_of_lines, told_of_list}
use Rattle.haya_json.proofs.laws.member_lines_are_a_list.Goals as goal

pub returns : goal.returns
returns c = record { list = list_of_lines; notes = told_of_list; lines = lines_of_list }
