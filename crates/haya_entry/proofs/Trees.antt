-- Laws of the view.
use Rattle.std.proofs.Common.{◌≡◌, List, [], ◌∷◌, map, refl, ap, ◌∙◌}
use Rattle.haya_entry.specs.declared.entry.Entry.{Entry, out-Entry}
use Rattle.haya_entry.specs.declared.entry.Entry.TheFolds.{fold_out-Entry, fold-roll-Entry}
use Rattle.haya_entry.specs.declared.entry.Entry.TheOpen.{Entry-F}
use Rattle.haya_entry.specs.declared.entry.Entry.TheViews.{roll-Entry}
use Rattle.haya_entry.specs.Tree.{Tree, node, trees, tree_list, view, view_step, fields_of, parents, with_parents}

pub tree_list-trees : (ts : List Tree) → tree_list (trees ts) ≡ ts
tree_list-trees [] = refl
tree_list-trees (t ∷ ts) = ap (λ l. t ∷ l) (tree_list-trees ts)

-- one level of the view
pub view_is : (e : Entry) → view e ≡ node (fields_of (out-Entry e)) (trees (map view (out-Entry e).parents.items))
view_is e = fold_out-Entry Tree view_step e

pub parents_is : (e : Entry) → parents (view e) ≡ map view (out-Entry e).parents.items
parents_is e = ap parents (view_is e) ∙ tree_list-trees (map view (out-Entry e).parents.items)

-- over its own parents an entry is as it was
pub with_own_parents : (e : Entry) (ps : List Tree) → ps ≡ map view (out-Entry e).parents.items → with_parents ps (view e) ≡ view e
with_own_parents e ps same = rw (view_is e, same) refl

-- the view of an entry that is made of its parts
pub view_rolled : (x : Entry-F Entry) → view (roll-Entry x) ≡ node (fields_of x) (trees (map view x.parents.items))
view_rolled x = fold-roll-Entry Tree view_step x
