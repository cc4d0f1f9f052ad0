use Rattle.std.proofs.Common.{◌+◌, ◌-◌}
use Rattle.haya_entry.specs.Levels.{height}
use Rattle.haya_entry.specs.Walks.{levels_further}
use Rattle.haya_entry.proofs.entry.ancestors.+walk_from.Given as goal

abbrev pub decreases-walk_from : goal.decreases-walk_from
decreases-walk_from g l = height (g.E.Node.tree l.node) + 1 - levels_further l.depth.now
