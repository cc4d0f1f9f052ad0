use Rattle.std.proofs.Common.{ap, ◌∙◌}
use Rattle.std.specs.Prelude.{Some}
use Rattle.haya_json.proofs.PersonsBack.{person_back}
use Rattle.haya_json.proofs.DatesBack.{date_back}
use Rattle.haya_json.proofs.laws.values_read_back.Goals as goal

pub returns : goal.returns
returns c = record {
  person = person_back;
  date = date_back;
  text = λ text normal. c.canonical.ensures.back text ∙ ap Some (c.normal_form.ensures.itself text normal);
}
