use Rattle.std.proofs.Common.{◌≡◌, Some, ap, ◌∙◌}
use Rattle.json.specs.Json.{document, object}
use Rattle.haya_yaml_slices.proofs.laws.members_are_said.Goals as goal

pub returns-clause-object : goal.returns-clause-object
returns-clause-object c text parts j says said =
    let read : document says.json ≡ Some j = (says.same.same j).1 said in
    let is = c.brackets_tell.ensures.object says.json parts j says.laid_out read in
    (is.0, is.1, c.slices_are_elements.ensures.members says.json parts is.0 says.laid_out (read ∙ ap Some is.1))

pub returns-clause-said : goal.returns-clause-said
returns-clause-said c text parts ms says members =
    (says.same.same (object ms)).0 (c.slices_make_documents.ensures.members says.json parts ms says.laid_out members)
