use Rattle.haya_bibtex_inherited.proofs.Cutting.{last_split}
use Rattle.haya_bibtex_inherited.proofs.order.follow_all.Goals as goal

pub step-requires-clause-last : goal.step-requires-clause-last
step-requires-clause-last c =
    let item = rw c.deref.ensures.value at c.in-Some.ensures.item in
    last_split c.groups.search.starts.items c.in-Some.last.now item.3.0 (item.3.1 0)
