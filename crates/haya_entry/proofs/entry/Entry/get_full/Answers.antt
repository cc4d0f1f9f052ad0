use Rattle.std.proofs.Common.{ap, sym, ◌∙◌}
use Rattle.std.specs.Prelude.{option_map}
use Rattle.haya_entry.specs.Tree.{at, view}
use Rattle.haya_entry.proofs.LookupLemmas.{first-parent, full-above, full-alone}
use Rattle.haya_entry.proofs.entry.Entry.get_full.Goals as goal

pub loop-full-preserved : goal.loop-full-preserved
loop-full-preserved c =
    let there = first-parent c.loop-full.full.now c.deref.result.now c.first.result c.deref.ensures.value c.first.ensures.value in
    c.loop-full.invariant ∙ full-above (view c.loop-full.full.now) (view c.in-Some.parent.now) (sym c.is_full.ensures ∙ c.loop-full-test.true) (rw c.in-Some.is at there)

pub returns-in-None : goal.returns-in-None
returns-in-None c =
    let there = first-parent c.loop-full.full.now c.deref.result.now c.first.result c.deref.ensures.value c.first.ensures.value in
    sym (c.loop-full.invariant ∙ ap (option_map (at (view c.loop-full.full.now))) (full-alone (view c.loop-full.full.now) (rw c.in-None.is at there)))
