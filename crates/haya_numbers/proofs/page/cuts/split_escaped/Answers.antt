use Rattle.haya_numbers.proofs.CutLemmas.{escaped_split-first}
use Rattle.haya_numbers.proofs.page.cuts.split_escaped.Goals as goal

pub returns : goal.returns
returns c = escaped_split-first c.args.text.now c.split_once.result c.utf8.text c.split_once.ensures.cases
