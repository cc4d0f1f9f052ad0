use Rattle.haya_json_elements.proofs.Documents.{document_of_items, document_of_members}
use Rattle.haya_json_elements.proofs.laws.documents.Goals as goal

pub returns-clause-items : goal.returns-clause-items
returns-clause-items c = document_of_items

pub returns-clause-members : goal.returns-clause-members
returns-clause-members c = document_of_members
