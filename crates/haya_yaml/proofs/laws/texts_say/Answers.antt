use Rattle.haya_yaml.proofs.Printed.{json_says, one_text, printed_says}
use Rattle.haya_yaml.proofs.laws.texts_say.Goals as goal

pub returns-clause-one_value : goal.returns-clause-one_value
returns-clause-one_value c = one_text

pub returns-clause-json : goal.returns-clause-json
returns-clause-json c = json_says

pub returns-clause-printed : goal.returns-clause-printed
returns-clause-printed c = printed_says
