use Rattle.std.proofs.Common.{◌≡◌, ◌+◌, ◌-◌, ◌++◌, ◌∷◌, [], length, map, get_or, rules, sym, ap, ◌∙◌}
use Rattle.std.proofs.lemmas.Result.{on_ok_weaker}
use Rattle.hayagriva.specs.Lookups.{add_parent}
use Rattle.hayagriva.specs.Tree.{view}
use Rattle.haya_line_library.specs.Chain.{chain_view}
use Rattle.haya_line_library.proofs.Chains.{last-put, one-closed}
use Rattle.haya_line_library.proofs.open_entries.close_last.Goals as goal

pub returns-then-len-eq1-clause-rows : goal.returns-then-len-eq1-clause-rows
returns-then-len-eq1-clause-rows c =
    let kept : map view c.swap.new.y.items ≡ map view c.args.chain.now.items = ap chain_view c.swap.ensures.y_after ∙ c.trim_last.ensures in
    let none : map view c.swap.new.x.items ≡ [] = ap chain_view c.swap.ensures.x_after ∙ ap (map view) c.requires.none in
    let one : length c.trim_last.new.chain.items ≡ 1 = search rules in
    rw none (one-closed view c.swap.new.y.items c.args.chain.now.items (ap (λ v. length v.items) c.swap.ensures.y_after ∙ one) (sym kept))

pub returns-clause-rows : goal.returns-clause-rows
returns-clause-rows c =
    let left = c.take_last-parent.new.self.items in
    let e = c.take_last-parent.result in
    let n = c.len-child.result - 1 in
    let last : n + 1 ≡ length left = search rules in
    let at : c.index_mut.result.now ≡ get_or left n c.index_mut.result.now = search rules in
    let same : map view c.args.chain.now.items ≡ map view (left ++ e ∷ []) = sym c.trim_last.ensures ∙ ap (map view) c.take_last-parent.ensures.items in
    rw c.requires.none (on_ok_weaker c.put_parent.result (λ is. last-put view left c.args.chain.now.items n c.index_mut.result.now c.put_parent.new.entry e last same
    (is ∙ ap (λ x. add_parent (view e) (view x)) at)) c.put_parent.ensures.ok)
