use Rattle.haya_people.proofs.TableLemmas.{is_listed-searched}
use Rattle.std.proofs.Common.{◌∙◌}
use Rattle.haya_people.proofs.table.is_listed.Goals as goal

pub returns : goal.returns
returns c = c.is_ok.ensures.value ∙ is_listed-searched _ _ _ c.requires c.binary_search.ensures.bound c.binary_search.ensures.position
