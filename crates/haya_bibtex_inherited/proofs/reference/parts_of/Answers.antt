use Rattle.std.proofs.Common.{Ok, lit<}
use Rattle.std.proofs.lemmas.Iterator.Consumers.{map_from_collect}
use Rattle.std.proofs.lemmas.Iterator.Splits.{YieldsList-from_str_split}
use Rattle.haya_bibtex_inherited.proofs.reference.parts_of.Goals as goal

pub returns : goal.returns
returns c = map_from_collect {E = Unit {0}} (Ok c.in_ok-collect.field-0) c.in_ok-collect.ensures.ran (YieldsList-from_str_split 44 c.args.text.now (lit< tt) c.split.ensures.text c.split.ensures.has_more c.split.ensures.pattern)
