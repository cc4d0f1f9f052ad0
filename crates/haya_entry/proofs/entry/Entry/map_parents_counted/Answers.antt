use Rattle.haya_entry.proofs.LevelLemmas.{asks_ancestors, levels_further-one}
use Rattle.haya_entry.proofs.entry.Entry.map_parents_counted.Goals as goal

pub returns-clause-asks : goal.returns-clause-asks
returns-clause-asks g c = asks_ancestors _ _ _ levels_further-one _ _ _ _ _ c.walk_from.ensures.asks
