use Rattle.std.proofs.Common.{sym}
use Rattle.haya_json_elements.specs.Elements.{elements}
use Rattle.haya_json_elements.specs.declared.place.Brackets.TheVariants.{Curly, Square}
use Rattle.haya_slices.proofs.Lines.{same_tokens}
use Rattle.haya_slices.proofs.Same.{same_items, same_members}
use Rattle.haya_slices.proofs.laws.slices_make_documents.Goals as goal

pub returns-clause-items : goal.returns-clause-items
returns-clause-items c text parts js laid said =
    c.documents.ensures.items text js
    (same_items parts (elements Square text) js (sym (same_tokens Square text parts laid)) said)

pub returns-clause-members : goal.returns-clause-members
returns-clause-members c text parts ms laid said =
    c.documents.ensures.members text ms
    (same_members parts (elements Curly text) ms (sym (same_tokens Curly text parts laid)) said)
