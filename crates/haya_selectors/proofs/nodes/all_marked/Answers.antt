use Rattle.std.proofs.Common.{rules, false, get_or}
use Rattle.std.proofs.lemmas.Iterator.{YieldsList-from_slice}
use Rattle.std.proofs.lemmas.Iterator.Search.{all_from_yields_List}
use Rattle.haya_selectors.proofs.nodes.all_marked.Goals as goal

pub returns : goal.returns
returns c = all_from_yields_List (λ n. get_or c.args.marks.now n false) _ _ c.all.result c.all.ensures.ran (YieldsList-from_slice c.args.numbers.now c.iter.ensures.rest) (λ x b q k. search rules)
