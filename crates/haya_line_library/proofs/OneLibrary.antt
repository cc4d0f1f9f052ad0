-- A text describes one library.
use Rattle.std.proofs.Common.{◌≡◌, ℕ, ◌+◌, ◌<◌, List, [], ◌∷◌, ◌++◌, refl, sym, ap, ◌∙◌, subst, append_assoc, arith}
use Rattle.hayagriva.specs.Library.{from_entries}
use Rattle.hayagriva.specs.Tree.{Tree, Trees, Fields, node, no_trees, one_more, trees, tree_list}
use Rattle.hayagriva.proofs.Trees.{tree_list-trees}
use Rattle.haya_lines.specs.Line.{Row}
use Rattle.haya_line_library.specs.Input.{Describes, rows_of, rows_of_all}

-- ---- the entries of rows
-- the first row, if there is one, isn't so deep
abbrev IsShallow : ℕ → List Row → Type 0
IsShallow d [] = Unit {0}
IsShallow d (row ∷ rows) = row.depth < d

shallow_below : (d : ℕ) (ts : Trees) (rows : List Row) → IsShallow d rows → IsShallow (d + 1) (rows_of_all d ts ++ rows)
shallow_below d no_trees [] h = tt
shallow_below d no_trees (row ∷ rows) h = omega arith
shallow_below d (one_more (node f ps) ts) rows h = omega arith

abbrev row_at : ℕ → Fields → Row
row_at d f = record { depth = d; fields = f }

same_row : (d : ℕ) (f g : Fields) (xs ys : List Row) → row_at d f ∷ xs ≡ row_at d g ∷ ys → (f ≡ g) × (xs ≡ ys)
same_row d f g xs ys h = let same : row_at d f ≡ row_at d g = cc in (ap (λ (row : Row). row.fields) same, cc)

none_deep : (d : ℕ) (u : Tree) (us : Trees) (xs ys : List Row) → IsShallow d xs → xs ≡ rows_of_all d (one_more u us) ++ ys → ⊥
none_deep d (node g qs) us xs ys shallow same = let deep : d < d = subst (IsShallow d) same shallow in omega arith

mutual
  tree-same : (t u : Tree) (d : ℕ) (xs ys : List Row) → IsShallow (d + 1) xs → IsShallow (d + 1) ys → rows_of d t ++ xs ≡ rows_of d u ++ ys → (t ≡ u) × (xs ≡ ys)
  tree-same (node f ps) (node g qs) d xs ys hx hy same =
      let first = same_row d f g (rows_of_all (d + 1) ps ++ xs) (rows_of_all (d + 1) qs ++ ys) same in
      let rest = trees-same ps qs (d + 1) xs ys hx hy first.1 in (cc, rest.1)

  trees-same : (ts us : Trees) (d : ℕ) (xs ys : List Row) → IsShallow d xs → IsShallow d ys → rows_of_all d ts ++ xs ≡ rows_of_all d us ++ ys → (ts ≡ us) × (xs ≡ ys)
  trees-same no_trees no_trees d xs ys hx hy same = (refl, same)
  trees-same no_trees (one_more u us) d xs ys hx hy same = absurd (none_deep d u us xs ys hx same)
  trees-same (one_more t ts) no_trees d xs ys hx hy same = absurd (none_deep d t ts ys xs hy (sym same))
  trees-same (one_more t ts) (one_more u us) d xs ys hx hy same =
      let first =
      tree-same t u d (rows_of_all d ts ++ xs) (rows_of_all d us ++ ys) (shallow_below d ts xs hx) (shallow_below d us ys hy)
      (sym (append_assoc (rows_of d t) (rows_of_all d ts) xs) ∙ same ∙ append_assoc (rows_of d u) (rows_of_all d us) ys) in
      let rest = trees-same ts us d xs ys hx hy first.1 in (cc, rest.1)

rows-same : (ts us : List Tree) → rows_of_all 0 (trees ts) ≡ rows_of_all 0 (trees us) → ts ≡ us
rows-same ts us h =
    sym (tree_list-trees ts) ∙ ap tree_list (trees-same (trees ts) (trees us) 0 [] [] tt tt (ap (λ l. l ++ []) h)).0 ∙ tree_list-trees us

pub Describes-same : (text : List ℕ) (a b : List Tree) → Describes text a → Describes text b → a ≡ b
Describes-same text a b f g =
    let rows : rows_of_all 0 (trees f.entries) ≡ rows_of_all 0 (trees g.entries) = cc in
    f.of_entries ∙ ap from_entries (rows-same f.entries g.entries rows) ∙ sym g.of_entries
