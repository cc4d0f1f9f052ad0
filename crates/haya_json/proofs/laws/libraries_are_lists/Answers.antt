use Rattle.haya_json.proofs.MemberLists.{keys_of_library, list_of_library}
use Rattle.haya_json.proofs.laws.libraries_are_lists.Goals as goal

pub returns : goal.returns
returns c = record { list = list_of_library; distinct = keys_of_library }
