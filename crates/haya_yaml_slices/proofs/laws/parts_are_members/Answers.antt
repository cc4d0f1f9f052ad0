use Rattle.std.proofs.Common.{◌≡◌, Some}
use Rattle.json.specs.Json.{document, object}
use Rattle.haya_yaml_slices.proofs.Each.{each_says, members_are}
use Rattle.haya_yaml_slices.proofs.laws.parts_are_members.Goals as goal

pub returns-clause-each : goal.returns-clause-each
returns-clause-each c text parts ms are said =
    let read : document are.said.json ≡ Some (object ms) = (are.said.same.same (object ms)).1 said in
    each_says c.slices_make_documents.ensures.members parts are.members ms are.each
    (c.slices_are_elements.ensures.members are.said.json are.members ms are.said.laid_out read)

pub returns-clause-text : goal.returns-clause-text
returns-clause-text c text parts ms are said =
    (are.said.same.same (object ms)).0
    (c.slices_make_documents.ensures.members are.said.json are.members ms are.said.laid_out
    (members_are c.slices_are_elements.ensures.members parts are.members ms are.each said))
