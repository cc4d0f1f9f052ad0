use Rattle.std.proofs.Common.{refl}
use Rattle.std.proofs.lemmas.List.{map-append}
use Rattle.hayagriva.specs.Tree.{view}
use Rattle.hayagriva.proofs.Trees.{tree_list-trees, view_is, view_rolled}
use Rattle.haya_line_library.proofs.open_entries.put_parent.Goals as goal

pub returns-clause-ok : goal.returns-clause-ok
returns-clause-ok c = rw (view_rolled, c.in_ok-put_behind.ensures.ok, view_is c.args.entry.now, tree_list-trees, map-append view) refl
