use Rattle.std.proofs.Common.{refl}
use Rattle.std.proofs.lemmas.List.{map-append}
use Rattle.haya_entry.proofs.Trees.{tree_list-trees, view_is, view_rolled}
use Rattle.haya_entry.proofs.entry.Entry.add_parent.Goals as goal

pub returns-in-Ok-clause-ok : goal.returns-in-Ok-clause-ok
returns-in-Ok-clause-ok c = rw (view_rolled, view_is c.args.self.now, c.in-Ok.ensures.items, map-append, tree_list-trees) refl
