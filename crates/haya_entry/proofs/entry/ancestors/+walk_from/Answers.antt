use Rattle.std.proofs.Common.{rules, of_calls, ◌+◌, suc, length, arith}
use Rattle.haya_entry.specs.Levels.{ancestors, height, levels_from}
use Rattle.haya_entry.specs.Walks.{levels_further}
use Rattle.haya_entry.proofs.LevelLemmas.{size-ancestors, reached_within, levels_from-nobody, levels_from-some, Asks-answered, Asks-then, Asks-some, levels_further-next, walks-more}
use Rattle.haya_entry.proofs.entry.ancestors.+walk_from.Goals as goal

pub walk_from-requires : goal.walk_from-requires
walk_from-requires g t c κs within =
    let deeper = levels_further-next c.args.depth in
    let there = reached_within (g.E.Node.tree c.args.node) (suc (levels_further c.args.depth.now)) (rw c.in-Asked.is at c.walk.ensures.reached) in
    search (of_calls, rules, deeper, there) parts 8

pub returns-in-Nobody-clause-asks : goal.returns-in-Nobody-clause-asks
returns-in-Nobody-clause-asks g t c =
    rw (levels_from-nobody (g.E.Node.tree c.args.node) (suc (levels_further c.args.depth.now)) (rw c.in-Nobody.is at c.walk.ensures.reached)) (rw c.in-Nobody.is at c.walk.ensures.asks)

pub returns-in-Nobody-clause-most : goal.returns-in-Nobody-clause-most
returns-in-Nobody-clause-most g t c =
    let x = g.E.Node.tree c.args.node in
    omega (arith, walks-more (height x) (levels_further c.args.depth.now) (length (ancestors x)) c.requires.within, size-ancestors x, c.walk.ensures.most)

pub returns-in-Asked-clause-asks : goal.returns-in-Asked-clause-asks
returns-in-Asked-clause-asks g t c =
    let x = g.E.Node.tree c.args.node in
    let here = rw c.in-Asked.is at c.walk.ensures.asks in
    let rest = rw (levels_further-next c.args.depth) at c.walk_from.ensures.asks in
    let there = reached_within x (suc (levels_further c.args.depth.now)) (rw c.in-Asked.is at c.walk.ensures.reached) in
    rw (levels_from-some x (suc (levels_further c.args.depth.now)) there) (here.0 + rest.0, Asks-then x here.1 rest.1, omega (arith, here.2, rest.2))

pub returns-in-Asked-clause-most : goal.returns-in-Asked-clause-most
returns-in-Asked-clause-most g t c =
    let x = g.E.Node.tree c.args.node in
    let rest = rw (levels_further-next c.args.depth) at c.walk_from.ensures.most in
    omega (arith, walks-more (height x) (levels_further c.args.depth.now) (length (ancestors x)) c.requires.within, size-ancestors x, c.walk.ensures.most, rest)

pub returns-in-Answered-clause-asks : goal.returns-in-Answered-clause-asks
returns-in-Answered-clause-asks g t c =
    let x = g.E.Node.tree c.args.node in
    let here = rw c.in-Answered.is at c.walk.ensures.asks in
    let there = reached_within x (suc (levels_further c.args.depth.now)) (Asks-some x here.1) in
    rw (levels_from-some x (suc (levels_further c.args.depth.now)) there) (here.0, Asks-answered x (levels_from x (suc (suc (levels_further c.args.depth.now)))) here.1, here.2)

pub returns-in-Answered-clause-most : goal.returns-in-Answered-clause-most
returns-in-Answered-clause-most g t c =
    let x = g.E.Node.tree c.args.node in
    omega (arith, walks-more (height x) (levels_further c.args.depth.now) (length (ancestors x)) c.requires.within, size-ancestors x, c.walk.ensures.most)
