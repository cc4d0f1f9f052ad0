use Rattle.haya_json_elements.specs.Elements.{elements}
use Rattle.haya_json_elements.specs.declared.place.Brackets.TheVariants.{Curly, Square}
use Rattle.haya_slices.proofs.Lines.{same_tokens}
use Rattle.haya_slices.proofs.Same.{same_items, same_members}
use Rattle.haya_slices.proofs.laws.slices_are_elements.Goals as goal

pub returns-clause-items : goal.returns-clause-items
returns-clause-items c text parts js laid said =
    same_items (elements Square text) parts js (same_tokens Square text parts laid)
    (c.elements_of_documents.ensures.items text js said)

pub returns-clause-members : goal.returns-clause-members
returns-clause-members c text parts ms laid said =
    same_members (elements Curly text) parts ms (same_tokens Curly text parts laid)
    (c.elements_of_documents.ensures.members text ms said)
