use Rattle.haya_asked.specs.Alike.{is_like}
use Rattle.haya_asked.proofs.FirstsLemmas.{firsts-firsts}
use Rattle.haya_asked.proofs.laws.firsts_stay.Goals as goal

pub returns : goal.returns
returns c = λ places hits. firsts-firsts (is_like places) hits
