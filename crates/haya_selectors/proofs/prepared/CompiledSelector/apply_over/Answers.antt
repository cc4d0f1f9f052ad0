use Rattle.std.proofs.Common.{◌≡◌, rules, sym, ◌∙◌, true}
use Rattle.haya_entry.specs.Tree.{view}
use Rattle.haya_selectors.specs.Nodes.{slot_names}
use Rattle.haya_selectors.specs.Root.{compiled_syntax}
use Rattle.haya_selectors.proofs.Lasts.{found_is_bound, last_is_bound}
use Rattle.haya_selectors.proofs.prepared.CompiledSelector.apply_over.Goals as goal

pub returns-clause-answer : goal.returns-clause-answer
returns-clause-answer c =
    let compiled = c.self.inside.compiled in
    let s = compiled_syntax compiled in
    let names = slot_names compiled.nodes in
    let x = view c.args.entry.now in
    let e : c.in_ok-holds.holds ≡ true = search rules in
    let h = rw e at c.in_ok-holds.ensures.bound in
    rw (← c.self.view_is) (
      sym c.in_ok-holds.ensures.answer ∙ e,
      record {
        names = λ q. found_is_bound s x names c.holds.new.found q _ h (c.in_ok-to_map.ensures q);
        entries = λ q. last_is_bound s x names c.holds.new.found q _ h (c.in_ok-to_map.ensures q);
      },
    )
