-- The look-ups from an entry: for each, the paths to all that it may answer, in order.
use Rattle.std.specs.Prelude.{◌≡◌, ℕ, suc, Bool, false, not, ◌&&◌, ◌||◌, if◌then◌else◌, List, [], ◌∷◌, ◌++◌, map, filter, flat_map, Option, None, Some, is_none, option_and_then, option_map, slice_get, unwrap_or, Vec}
use Rattle.std.specs.Borrow.{Bor}
use Rattle.std.specs.Global.{Global}
use Rattle.std.specs.List.{filter_map, last_or}
use Rattle.std.specs.Option.{option_map_or, option_or}
use Rattle.std.specs.Str.{bytes_eq}
use Rattle.haya_entry.specs.declared.types.EntryType.{EntryType}
use Rattle.haya_entry.specs.declared.types.EntryType.TheVariants.{Anthology}
use Rattle.haya_entry.specs.declared.entry.Entry.{Entry}
use Rattle.haya_entry.specs.Levels.{ancestors}
use Rattle.haya_entry.specs.Names.{is_of_type}
use Rattle.haya_entry.specs.ParentTypes.{container_types, is_collected, is_part}
use Rattle.haya_entry.specs.Tree.{Tree, Trees, node, no_trees, one_more, at, fields, parents, view, with_fields, with_parents}
use Rattle.haya_people.specs.declared.person.Person.{Person}
use Rattle.haya_people.specs.declared.role.PersonRole.{PersonRole}
use Rattle.haya_people.specs.declared.role.PersonsWithRoles.{PersonsWithRoles}
use Rattle.haya_people.specs.Person.{PersonView, person_view}
use Rattle.haya_people.specs.Roles.{RoleView, role_named, role_in_words, role_view, roles_view, RolesView}

-- the first of a list
abbrev pub first : {A : Type 0} → List A → Option A
first xs = slice_get xs 0

-- the answer is the entry at the path, by value; where there is no path, there is no answer
abbrev pub IsAt : Tree → Option (List ℕ) → Option (Bor Entry) → Type 0
IsAt x path answer = option_map (λ e. Some (view e.now)) answer ≡ option_map (at x) path

-- paths from each of several entries, as paths from the entry whose parents these are, the first
-- of them at this place
abbrev pub joined_paths : ℕ → List (List (List ℕ)) → List (List ℕ)
joined_paths i [] = []
joined_paths i (paths ∷ rest) = map (λ path. i ∷ path) paths ++ joined_paths (suc i) rest

-- the parents that pass a test, in order
abbrev pub parents_passing : (Tree → Bool) → Tree → List (List ℕ)
parents_passing test x = joined_paths 0 (map (λ p. if test p then [] ∷ [] else []) (parents x))

-- the containers, the most fitting first: of each type in turn the parents that have it
abbrev pub containers : Tree → List (List ℕ)
containers x =
    flat_map (λ kind. parents_passing (is_of_type kind) x) (container_types (fields x).entry_type)

-- whether an entry is a collection of those of this type that appear in it
abbrev pub is_collection_of : EntryType → Tree → Bool
is_collection_of kind x = is_of_type kind x || is_of_type Anthology x

abbrev mutual
  -- the collections: those among the parents, or otherwise those of the parents
  pub collections : Tree → List (List ℕ)
  collections (node f ps) =
      if is_collected f.entry_type
      then parents_passing (is_collection_of f.entry_type) (node f ps)
      else joined_paths 0 (collection_lists ps)

  pub collection_lists : Trees → List (List (List ℕ))
  collection_lists no_trees = []
  collection_lists (one_more t ts) = collections t ∷ collection_lists ts

abbrev mutual
  -- the entry and all above it, depth first: a parent and all above it stand before the next parent
  pub depth_first_paths : Tree → List (List ℕ)
  depth_first_paths (node f ps) = [] ∷ joined_paths 0 (depth_first_lists ps)

  pub depth_first_lists : Trees → List (List (List ℕ))
  depth_first_lists no_trees = []
  depth_first_lists (one_more t ts) = depth_first_paths t ∷ depth_first_lists ts

-- whether the entry at a path passes a test
abbrev pub passes_at : (Tree → Bool) → Tree → List ℕ → Bool
passes_at test x path = option_map_or test (at x path) false

-- the entries of a type, depth first
abbrev pub entries_of_type : EntryType → Tree → List (List ℕ)
entries_of_type kind x = filter (passes_at (is_of_type kind) x) (depth_first_paths x)

-- the line of first parents: the entry, its first parent, that one's first parent, and so on
abbrev mutual
  pub line_of_first_parents : Tree → List (List ℕ)
  line_of_first_parents (node f ps) = [] ∷ map (λ path. 0 ∷ path) (line_above ps)

  pub line_above : Trees → List (List ℕ)
  line_above no_trees = []
  line_above (one_more t ts) = line_of_first_parents t

-- whether the entry stands for itself, and isn't a part without a title of what it appears in
abbrev pub is_full : Tree → Bool
is_full x = not (is_part (fields x).entry_type && is_none (fields x).title)

-- the first entry on that line that stands for itself, or the last on it
abbrev pub full_path : Tree → Option (List ℕ)
full_path x =
    let line = line_of_first_parents x in
    option_or (first (filter (passes_at is_full x) line)) (last_or None line)

-- the first value over the entry and then its ancestors, level by level
abbrev pub first_value : {V : Type 0} → (Tree → Option V) → Tree → Option V
first_value value x =
    first (filter_map (λ path. option_and_then value (at x path)) ([] ∷ ancestors x))

-- whether two roles are the same
abbrev pub is_same_role : RoleView → RoleView → Bool
is_same_role (role_named a) (role_named b) = bytes_eq a b
is_same_role (role_in_words a) (role_in_words b) = bytes_eq a b
is_same_role _ _ = false

-- lists of persons with their role, by value
abbrev pub lists_view : Option (Vec PersonsWithRoles Global) → Option (List RolesView)
lists_view = option_map (λ lists. map roles_view lists.items)

-- the affiliated persons with their roles, none where the field isn't set
abbrev pub affiliated_lists : Tree → List RolesView
affiliated_lists x = unwrap_or (fields x).affiliated []

-- of lists of persons with their role, all persons with this role, in order
abbrev pub persons_of_role : RoleView → List RolesView → List PersonView
persons_of_role role lists = flat_map (λ l. l.names) (filter (λ l. is_same_role l.role role) lists)

abbrev pub affiliated_with_role : RoleView → Tree → List PersonView
affiliated_with_role role x = persons_of_role role (affiliated_lists x)

-- the entry with one more parent, the last
abbrev pub add_parent : Tree → Tree → Tree
add_parent parent x = with_parents (parents x ++ parent ∷ []) x

-- persons and their role, by value
abbrev pub pair_view : Vec Person Global × PersonRole → RolesView
pair_view p = record { names = map person_view p.0.items; role = role_view p.1 }

-- the entry with more affiliated persons, the last
abbrev pub add_affiliated_persons : RolesView → Tree → Tree
add_affiliated_persons persons x =
    with_fields (λ f. record f { affiliated = Some (affiliated_lists x ++ persons ∷ []) }) x
