use Rattle.haya_json_elements.proofs.Complete.{items-of-array, members-of-object}
use Rattle.haya_json_elements.proofs.laws.elements_of_documents.Goals as goal

pub returns-clause-items : goal.returns-clause-items
returns-clause-items c = items-of-array

pub returns-clause-members : goal.returns-clause-members
returns-clause-members c = members-of-object
