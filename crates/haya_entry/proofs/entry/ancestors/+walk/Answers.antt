use Rattle.std.proofs.Common.{rules, of_calls, arith}
use Rattle.haya_entry.proofs.LevelLemmas.{Asks-itself, levels_further-one, levels_further-next, size-parents, level-first, under_way_first, under_way_answered, under_way_most, under_way_nobody, under_way_asked, under_way_asks, under_way_reached, under_way_end}
use Rattle.haya_entry.proofs.entry.ancestors.+walk.Goals.{walk-in-Nobody, walk-in-Asked}
use Rattle.haya_entry.proofs.entry.ancestors.+walk.Goals as goal

pub ask-returns-in-Some-clause-asks : goal.ask-returns-in-Some-clause-asks
ask-returns-in-Some-clause-asks g t c =
    rw (c.in-One.is, levels_further-one) (1, Asks-itself _ _ _ _ _ _ (rw c.in-Some.is at c.f.ensures), search rules)

pub ask-returns-in-Some-clause-most : goal.ask-returns-in-Some-clause-most
ask-returns-in-Some-clause-most g t c = omega (arith, size-parents (g.E.Node.tree c.args.node), c.tick.ensures)

pub ask-returns-in-None-clause-asks : goal.ask-returns-in-None-clause-asks
ask-returns-in-None-clause-asks g t c =
    rw (c.in-One.is, levels_further-one) (1, Asks-itself _ _ _ _ _ _ (rw c.in-None.is at c.f.ensures), search rules)

pub ask-returns-in-None-clause-most : goal.ask-returns-in-None-clause-most
ask-returns-in-None-clause-most g t c = omega (arith, size-parents (g.E.Node.tree c.args.node), c.tick.ensures)

pub ask-returns-in-Next-clause-asks : goal.ask-returns-in-Next-clause-asks
ask-returns-in-Next-clause-asks g t c = rw (c.in-Next.is, levels_further-next c.in-Next.shallower) (c.walk.ensures.asks.0, c.walk.ensures.asks.1, omega (arith, c.walk.ensures.asks.2, c.tick.ensures))

pub walk-parents-init : goal.walk-parents-init
walk-parents-init g t c = (c.requires, under_way_first _ _ _ _)

pub walk-ask-requires : goal.walk-ask-requires
walk-ask-requires g t c κs within = search (of_calls, rules) parts 8

pub walk-returns-in-Answered-clause-asks : goal.walk-returns-in-Answered-clause-asks
walk-returns-in-Answered-clause-asks g t c =
    rw level-first (under_way_answered _ _ c.parents.invariant.1 _ c.parent.ensures (rw c.in-Answered.is at c.ask.ensures.asks))

pub walk-returns-in-Answered-clause-most : goal.walk-returns-in-Answered-clause-most
walk-returns-in-Answered-clause-most g t c = under_way_most _ _ c.parents.invariant.1 _ c.parent.ensures _ c.ask.ensures.most

pub walk-parents-preserved : goal.walk-parents-preserved
walk-parents-preserved g t c =
    elim c.match-ask.branch [
      | walk-in-Nobody w ↦ (
        c.ask.ensures.callable,
        rw w.is_reached-is (under_way_nobody _ _ c.parents.invariant.1 _ c.parent.ensures (rw w.in-Nobody.is at c.ask.ensures.asks) c.ask.ensures.most (rw w.in-Nobody.is at c.ask.ensures.reached)),
      )
      | walk-in-Asked w ↦ (
        c.ask.ensures.callable,
        rw w.is_reached-is (under_way_asked _ _ c.parents.invariant.1 _ c.parent.ensures (rw w.in-Asked.is at c.ask.ensures.asks) c.ask.ensures.most (rw w.in-Asked.is at c.ask.ensures.reached)),
      )
    ]

pub walk-returns-then-is_reached-clause-asks : goal.walk-returns-then-is_reached-clause-asks
walk-returns-then-is_reached-clause-asks g t c = rw level-first (under_way_asks _ _ c.parents.invariant.1 (search rules))

pub walk-returns-then-is_reached-clause-reached : goal.walk-returns-then-is_reached-clause-reached
walk-returns-then-is_reached-clause-reached g t c = rw level-first (rw c.if-is_reached.true at (under_way_reached _ _ c.parents.invariant.1 (search rules)))

pub walk-returns-then-is_reached-clause-most : goal.walk-returns-then-is_reached-clause-most
walk-returns-then-is_reached-clause-most g t c = under_way_end _ _ c.parents.invariant.1 (search rules)

pub walk-returns-else-is_reached-clause-asks : goal.walk-returns-else-is_reached-clause-asks
walk-returns-else-is_reached-clause-asks g t c = rw level-first (under_way_asks _ _ c.parents.invariant.1 (search rules))

pub walk-returns-else-is_reached-clause-reached : goal.walk-returns-else-is_reached-clause-reached
walk-returns-else-is_reached-clause-reached g t c = rw level-first (rw c.if-is_reached.false at (under_way_reached _ _ c.parents.invariant.1 (search rules)))

pub walk-returns-else-is_reached-clause-most : goal.walk-returns-else-is_reached-clause-most
walk-returns-else-is_reached-clause-most g t c = under_way_end _ _ c.parents.invariant.1 (search rules)
