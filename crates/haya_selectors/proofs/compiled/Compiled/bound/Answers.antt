use Rattle.std.proofs.Common.{sym, ◌∙◌}
use Rattle.haya_entry.specs.Tree.{view}
use Rattle.haya_selectors.specs.Nodes.{slot_names}
use Rattle.haya_selectors.specs.Root.{compiled_syntax}
use Rattle.haya_selectors.proofs.Lasts.{last_is_bound}
use Rattle.haya_selectors.proofs.compiled.Compiled.bound.Goals as goal

pub returns-then-branch : goal.returns-then-branch
returns-then-branch c =
    let s = compiled_syntax c.args.self.now in
    let names = slot_names c.args.self.now.nodes in
    let x = view c.args.entry.now in
    let h = rw c.if-branch.true at c.in_ok-holds.ensures.bound in
    rw (sym c.in_ok-holds.ensures.answer ∙ c.if-branch.true) (last_is_bound s x names c.holds.new.found c.args.name.now c.last.result h c.last.ensures)
