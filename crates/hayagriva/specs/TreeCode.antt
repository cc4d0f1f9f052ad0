-- A code for entries by value. A proof tells the values of a library apart by it, and so does `==`.
use Rattle.std.specs.Prelude.{◌≡◌, ◌==◌, Bool, true, false, ◌&&◌}
use Rattle.std.specs.Coded.{Coded, codes}
use Rattle.std.proofs.Common.{refl}
use base.Stored.{Gv, gnil, gnum, gcons}
use Rattle.haya_entry.specs.Tree.{Tree, Trees, Fields, node, no_trees, one_more}

fields_coded : Coded Fields
fields_coded = hlevel codes

mutual
  pub tree_code : Tree → Gv
  tree_code (node f ps) = gcons (fields_coded.code f) (trees_code ps)

  pub trees_code : Trees → Gv
  trees_code no_trees = gnil
  trees_code (one_more t ts) = gcons (tree_code t) (trees_code ts)

mutual
  unfolding tree_code trees_code

  pub tree_inj : (s t : Tree) → tree_code s ≡ tree_code t → s ≡ t
  tree_inj (node f ps) (node g qs) e =
      let same_fields : f ≡ g = fields_coded.inj f g (cc) in
      let same_parents : ps ≡ qs = trees_inj ps qs (cc) in cc

  pub trees_inj : (ss ts : Trees) → trees_code ss ≡ trees_code ts → ss ≡ ts
  trees_inj no_trees no_trees e = refl
  trees_inj no_trees (one_more t ts) e = cc
  trees_inj (one_more s ss) no_trees e = cc
  trees_inj (one_more s ss) (one_more t ts) e =
      let same_first : s ≡ t = tree_inj s t (cc) in
      let same_rest : ss ≡ ts = trees_inj ss ts (cc) in cc

abbrev pub tree_coded : Coded Tree
tree_coded = record { code = tree_code; inj = tree_inj }

-- whether two codes are the same
abbrev pub same_code : Gv → Gv → Bool
same_code gnil gnil = true
same_code (gnum m) (gnum n) = m == n
same_code (gcons a b) (gcons c d) = same_code a c && same_code b d
same_code _ _ = false

-- whether two entries are the same
abbrev pub same_tree : Tree → Tree → Bool
same_tree s t = same_code (tree_code s) (tree_code t)
