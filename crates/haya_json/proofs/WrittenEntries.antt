-- Entries that are written part by part.
use Rattle.std.proofs.Common.{◌≡◌, ◌<◌, ℕ, List, [], ◌∷◌, Option, length, ap, ◌∙◌, refl, arith}
use Rattle.std.specs.Prelude.{codes}
use Rattle.json.specs.Json as json
use Rattle.haya_entry.specs.Tree.{Tree, Trees, node, no_trees, one_more, trees, tree_list, fields, parents}
use Rattle.haya_entry.specs.declared.types.EntryType.{EntryType}
use Rattle.haya_json.specs.Printed.{also, type_json, key_of_its_own, field_members, parent_members, parents_json, item_list, json_of}

trees-tree_list : (ts : Trees) → trees (tree_list ts) ≡ ts
trees-tree_list no_trees = refl
trees-tree_list (one_more t ts) = ap (one_more t) (trees-tree_list ts)

-- the JSON of an entry by its parts
abbrev pub parts_json : Option (List ℕ) → Tree → EntryType → List ℕ → List ℕ → List Tree → json.Json
parts_json below t kind key over ps =
    json.object
    (json.member (codes "type") (type_json kind)
    (also (codes "key") json.string (key_of_its_own below key) (field_members (fields t) (parent_members over (trees ps)))))

-- the parts of an entry are the entry
pub whole : (below : Option (List ℕ)) (t : Tree) (kind : EntryType) (key over : List ℕ) (ps : List Tree)
    → kind ≡ (fields t).entry_type → key ≡ (fields t).key → over ≡ (fields t).key → ps ≡ parents t
    → parts_json below t kind key over ps ≡ json_of below t
whole below (node f qs) kind key over ps typed keyed again under =
    ap (λ k. parts_json below (node f qs) k key over ps) typed
    ∙ ap (λ k. parts_json below (node f qs) f.entry_type k over ps) keyed
    ∙ ap (λ k. parts_json below (node f qs) f.entry_type f.key k ps) again
    ∙ ap (λ q. json.object (json.member (codes "type") (type_json f.entry_type) (also (codes "key") json.string (key_of_its_own below f.key) (field_members f (parent_members f.key q))))) (ap trees under ∙ trees-tree_list qs)

-- parents, where there are any
pub some_parents : (key : List ℕ) (ps : List Tree) → 0 < length ps → json.member (codes "parent") (parents_json key (trees ps)) json.no_members ≡ parent_members key (trees ps)
some_parents key [] some = absurd (omega arith)
some_parents key (p ∷ []) some = refl
some_parents key (p ∷ q ∷ ps) some = refl

-- several parents, or none, are an array
pub not_one : (key : List ℕ) (ps : List Tree) → (length ps ≡ 1 → ⊥) → json.array (item_list key (trees ps)) ≡ parents_json key (trees ps)
not_one key [] several = refl
not_one key (p ∷ []) several = absurd (several refl)
not_one key (p ∷ q ∷ ps) several = refl
