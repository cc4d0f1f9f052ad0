use Rattle.haya_json_elements.specs.declared.place.Brackets.TheVariants.{Curly, Square}
use Rattle.haya_slices.specs.Layout.{IsElement, list_text}
use Rattle.haya_source.specs.Elements.{parts_of}
use Rattle.haya_source.proofs.Divided.{items_back, members_back, picked_elements}
use Rattle.haya_source.proofs.Says.{all_contained}
use Rattle.haya_source.proofs.Yaml.{SaysEntry, yaml_back}
use Rattle.haya_source.proofs.laws.picked_elements_read_back.Goals as goal

pub returns-clause-items : goal.returns-clause-items
returns-clause-items c by text es picked are among distinct =
    let elements = picked_elements (IsElement Square) es picked among are.divided.elements in
    let printed = list_text Square (parts_of picked) in
    let laid = c.lists_are_laid_out.ensures Square (parts_of picked) elements in
    items_back by text printed es picked
    (λ js. c.slices_make_documents.ensures.items printed (parts_of picked) js laid)
    (λ entries. c.lists_are_libraries.ensures.distinct by printed entries) are among distinct

pub returns-clause-members : goal.returns-clause-members
returns-clause-members c text es picked are among distinct =
    let elements = picked_elements (IsElement Curly) es picked among are.divided.elements in
    let printed = list_text Curly (parts_of picked) in
    let laid = c.lists_are_laid_out.ensures Curly (parts_of picked) elements in
    members_back text printed es picked
    (λ ms. c.slices_make_documents.ensures.members printed (parts_of picked) ms laid)
    are among distinct

pub returns-clause-yaml : goal.returns-clause-yaml
returns-clause-yaml c text es picked printed are among distinct is =
    yaml_back printed is.same.members picked is.same.said
    (λ ms. c.parts_are_members.ensures.text printed (parts_of picked) ms is.same)
    (all_contained (λ e. SaysEntry e.0 e.1) es picked among are.each) distinct
