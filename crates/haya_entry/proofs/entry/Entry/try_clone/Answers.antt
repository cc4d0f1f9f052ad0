use Rattle.std.proofs.Common.{◌≡◌, map, ap, ◌∙◌}
use Rattle.std.proofs.lemmas.Result.{IfOk-weaker}
use Rattle.haya_entry.specs.Tree.{view, with_parents}
use Rattle.haya_entry.proofs.Trees.{with_own_parents}
use Rattle.haya_entry.proofs.entry.Entry.try_clone.Goals as goal

pub returns : goal.returns
returns c =
    let e = c.args.self.now in
    let parents = map view c.in_ok-parents.parents.items in
    let own : with_parents parents (view e) ≡ view e = with_own_parents e parents (c.in_ok-parents.ensures ∙ ap (map view) c.deref.ensures.value) in
    IfOk-weaker c.copy_over.result (λ copy. view copy ≡ with_parents parents (view e)) (λ copy. view copy ≡ view e) (λ copy same. same ∙ own) c.copy_over.ensures
