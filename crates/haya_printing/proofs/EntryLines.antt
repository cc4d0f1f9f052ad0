-- The lines of an entry, part by part.
use Rattle.std.proofs.Common.{◌≡◌, ℕ, ◌+◌, List, [], ◌∷◌, ◌++◌, Option, Some, refl, sym, ap, ◌∙◌, append_assoc, append-nil}
use Rattle.std.specs.List.{last_or}
use Rattle.haya_entry.specs.Tree.{Tree, Trees, node, no_trees, one_more, trees, tree_list, fields, parents}
use Rattle.haya_lines.specs.Signs.{line_feed}
use Rattle.haya_line_library.specs.Parts.{AreWholeLines}
use Rattle.haya_printing.specs.Printed.{all_lines_text, head_text, field_items, line_text, lines_text, entry_text}

trees-tree_list : (ts : Trees) → trees (tree_list ts) ≡ ts
trees-tree_list no_trees = refl
trees-tree_list (one_more t ts) = ap (one_more t) (trees-tree_list ts)

-- the line of an entry and those of its parents are its lines
pub lines_text-parts : (d deeper : ℕ) (t : Tree) (ps : List Tree) → deeper ≡ d + 1 → ps ≡ parents t
    → line_text d (fields t) ++ all_lines_text deeper (trees ps) ≡ lines_text d t
lines_text-parts d deeper (node f qs) ps one under =
    ap (λ n. line_text d f ++ all_lines_text n (trees ps)) one
    ∙ ap (λ ts. line_text d f ++ all_lines_text (d + 1) ts) (ap trees under ∙ trees-tree_list qs)

-- what is pushed before a line feed, and the line feed
pub fed : (old new end : List ℕ) (more : List ℕ → List ℕ) → ((rest : List ℕ) → new ++ rest ≡ old ++ more rest) → end ≡ new ++ line_feed ∷ []
    → end ≡ old ++ (more [] ++ line_feed ∷ [])
fed old new end more pushes is =
    is ∙ ap (λ l. l ++ line_feed ∷ []) (sym (append-nil new) ∙ pushes []) ∙ append_assoc old (more []) (line_feed ∷ [])

-- ---- lines are whole
last-feed : (before : Option ℕ) (xs : List ℕ) → last_or before (xs ++ line_feed ∷ []) ≡ Some line_feed
last-feed before [] = refl
last-feed before (x ∷ xs) = last-feed (Some x) xs

last-append : (before : Option ℕ) (xs ys : List ℕ) → last_or before (xs ++ ys) ≡ last_or (last_or before xs) ys
last-append before [] ys = refl
last-append before (x ∷ xs) ys = last-append (Some x) xs ys

whole-append : (xs ys : List ℕ) → AreWholeLines xs → AreWholeLines ys → AreWholeLines (xs ++ ys)
whole-append xs ys first second = last-append (Some line_feed) xs ys ∙ ap (λ o. last_or o ys) first ∙ second

mutual
  lines_text-whole : (d : ℕ) (t : Tree) → AreWholeLines (lines_text d t)
  lines_text-whole d (node f ps) =
      whole-append (line_text d f) (all_lines_text (d + 1) ps) (last-feed (Some line_feed) (head_text d f (field_items f []))) (all_lines_text-whole (d + 1) ps)

  all_lines_text-whole : (d : ℕ) (ts : Trees) → AreWholeLines (all_lines_text d ts)
  all_lines_text-whole d no_trees = refl
  all_lines_text-whole d (one_more t ts) =
      whole-append (lines_text d t) (all_lines_text d ts) (lines_text-whole d t) (all_lines_text-whole d ts)

pub entry_text-whole : (t : Tree) → AreWholeLines (entry_text t)
entry_text-whole t = lines_text-whole 0 t
