use Rattle.std.proofs.Common.{◌+◌, ◌*◌}
use Rattle.haya_entry.specs.Walks.{levels_further}
use Rattle.haya_entry.proofs.LevelLemmas.{IsUnderWay}
use Rattle.haya_entry.proofs.entry.ancestors.+walk.Given as goal

abbrev pub decreases-ask : goal.decreases-ask
decreases-ask g l = 2 * levels_further l.depth.now

abbrev pub decreases-walk : goal.decreases-walk
decreases-walk g l = 2 * levels_further l.depth.now + 1

abbrev pub invariant-walk-parents : goal.invariant-walk-parents
invariant-walk-parents g l =
    goal.F-IsAlwaysCallable g l.f
    × IsUnderWay (g.E.Node.tree) (goal.F-step g) (g.E.Node.tree l.node) (levels_further l.depth) l.fn.f l.f l.place l.fn.steps l.steps l.is_reached
