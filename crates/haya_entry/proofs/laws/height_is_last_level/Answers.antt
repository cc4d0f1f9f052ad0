use Rattle.haya_entry.proofs.LevelLemmas.{level_below, reached_within}
use Rattle.haya_entry.proofs.laws.height_is_last_level.Goals as goal

pub returns : goal.returns
returns c x d = (reached_within x d, level_below x d)
