-- An entry and its ancestors in order, and entries of a library by number.
use Rattle.std.specs.Prelude.{◌≡◌, ◌≢◌, ℕ, List, [], ◌∷◌, ◌++◌, Option, None, Some, option_and_then, slice_get}
use Rattle.haya_entry.specs.Tree.{Tree, Trees, node, no_trees, one_more, parents}
use Rattle.haya_views.specs.declared.entry_id.EntryId.{EntryId}

-- the entry itself, and then for each parent in turn that parent and its ancestors, in order
abbrev mutual
  pub in_order : Tree → List Tree
  in_order (node f ps) = node f ps ∷ all_in_order ps

  pub all_in_order : Trees → List Tree
  all_in_order no_trees = []
  all_in_order (one_more t ts) = in_order t ++ all_in_order ts

-- the entry of a library, or the ancestor of one, that is meant
abbrev pub entry_at : List Tree → EntryId → Option Tree
entry_at library id = option_and_then (λ t. slice_get (in_order t) id.step) (slice_get library id.place)

-- the parent at a place of the entry that is meant
abbrev pub parent_at : List Tree → EntryId → ℕ → Option Tree
parent_at library id place = option_and_then (λ t. slice_get (parents t) place) (entry_at library id)

-- another number means just what is asked, or there is none
abbrev pub Means : List Tree → Option EntryId → Option Tree → Type 0
Means library None asked = asked ≡ None
Means library (Some id) asked = (entry_at library id ≡ asked) × (asked ≢ None)
