use Rattle.std.proofs.Common.{map, ap, sym, ◌∙◌}
use Rattle.haya_entry.specs.Tree.{view}
use Rattle.haya_entry.proofs.Trees.{parents_is}
use Rattle.haya_entry.proofs.entry.Entry.parents.Goals as goal

pub returns : goal.returns
returns c = ap (map view) c.as_slice.ensures.value ∙ sym (parents_is c.args.self.now)
