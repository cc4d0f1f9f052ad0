-- Laws of the look-ups' lists of paths.
use Rattle.std.proofs.Common.{◌≡◌, ℕ, suc, ◌+◌, ◌<◌, ◌≤◌, Bool, true, false, cond, ◌||◌, List, [], ◌∷◌, ◌++◌, length, get_or, drop, drop-cons, map, Option, None, Some, refl, sym, ap, ◌∙◌, add-one, arith}
use Rattle.std.specs.Prelude.{option_and_then, option_map, slice_get, filter, find, flat_map}
use Rattle.std.specs.Borrow.{Bor}
use Rattle.std.specs.List.{last_or}
use Rattle.std.specs.Option.{option_copied, option_or}
use Rattle.std.proofs.Math.ListN.{drop_of_length-le}
use Rattle.std.proofs.lemmas.List.{length-map}
use Rattle.std.proofs.lemmas.List.Elements.{filter-append}
use Rattle.std.proofs.lemmas.Option.{slice_get_read, slice_get-map}
use Rattle.haya_entry.specs.declared.entry.Entry.{Entry, out-Entry}
use denote.Enum.Bare.{sameb}
use Rattle.haya_entry.specs.contracts.types.EntryType.{the_type}
use Rattle.haya_entry.specs.declared.types.EntryType.{EntryType}
use Rattle.haya_entry.specs.declared.types.EntryType.TheVariants.{Anthology}
use Rattle.haya_entry.specs.Lookups.{IsAt, collections, containers, depth_first_paths, collection_lists, depth_first_lists, entries_of_type, first, line_of_first_parents, line_above, full_path, is_collection_of, is_full, joined_paths, parents_passing, passes_at}
use Rattle.haya_entry.specs.Names.{is_of_type}
use Rattle.haya_entry.specs.ParentTypes.{container_types, is_collected}
use Rattle.haya_entry.specs.Tree.{Tree, Trees, node, no_trees, one_more, at, fields_of, parents, tree_list, trees, view}
use Rattle.haya_entry.proofs.LevelLemmas.{from_place, places_from}
use Rattle.haya_entry.proofs.Trees.{parents_is, view_is}

-- no answer: no path
path-none : (x : Tree) (path : Option (List ℕ)) → IsAt x path None → path ≡ None
path-none x None h = refl
path-none x (Some p) h = cc

-- where an entry gives no path, the next are asked
joined_paths-none : (i : ℕ) (paths : List (List ℕ)) (rest : List (List (List ℕ))) → first paths ≡ None → first (joined_paths i (paths ∷ rest)) ≡ first (joined_paths (suc i) rest)
joined_paths-none i [] rest h = refl
joined_paths-none i (p ∷ ps) rest h = cc

-- where it gives one, that is the answer
joined_paths-some : (x t : Tree) (i : ℕ) (paths : List (List ℕ)) (rest : List (List (List ℕ))) (answer : Bor Entry)
    → slice_get (parents x) i ≡ Some t → IsAt t (first paths) (Some answer) → IsAt x (first (joined_paths i (paths ∷ rest))) (Some answer)
joined_paths-some x t i [] rest answer s h = cc
joined_paths-some x t i (p ∷ ps) rest answer s h = h ∙ ap (λ o. Some (option_and_then (λ q. at q p) o)) (sym s)

-- the entries of a loop over parents are the parents by value
pub parent_at : (x : Entry) (es : List Entry) (i : ℕ) (e : Entry) → es ≡ (out-Entry x).parents.items → i < length es → e ≡ get_or es i e → slice_get (parents (view x)) i ≡ Some (view e)
parent_at x es i e s h r =
    ap (λ ts. slice_get ts i) (parents_is x ∙ ap (map view) (sym s)) ∙ slice_get-map view es i ∙ ap (option_map view) (slice_get_read es (length es) i e refl h r)

-- the parents by value
abbrev above : Entry → Trees
above x = trees (map view (out-Entry x).parents.items)

-- A search over parents: none of those before place i has an answer.
abbrev pub Searched : (Tree → List (List ℕ)) → List (List ℕ) → Tree → ℕ → Type 0
Searched answers paths x i = first paths ≡ first (joined_paths i (map answers (drop i (parents x))))

module _ (answers : Tree → List (List ℕ)) (paths : List (List ℕ)) (x : Entry) (es : List Entry) (s : es ≡ (out-Entry x).parents.items) (i : ℕ) (searched : Searched answers paths (view x) i) where
  module _ (e : Entry) (within : i < length es) (r : e ≡ get_or es i e) where
    here : first paths ≡ first (joined_paths i (answers (view e) ∷ map answers (drop (suc i) (parents (view x)))))
    here = searched ∙ ap (λ ts. first (joined_paths i (map answers ts))) (from_place (parents (view x)) i (view e) (parent_at x es i e s within r))

    pub searched-next : IsAt (view e) (first (answers (view e))) None → Searched answers paths (view x) (i + 1)
    searched-next none = rw add-one (here ∙ joined_paths-none i (answers (view e)) (map answers (drop (suc i) (parents (view x)))) (path-none (view e) (first (answers (view e))) none))

    pub searched-found : (answer : Bor Entry) → IsAt (view e) (first (answers (view e))) (Some answer) → IsAt (view x) (first paths) (Some answer)
    searched-found answer some =
        joined_paths-some (view x) (view e) i (answers (view e)) (map answers (drop (suc i) (parents (view x)))) answer (parent_at x es i e s within r) some ∙ ap (option_map (at (view x))) (sym here)

  pub searched-all : length es ≤ i → IsAt (view x) (first paths) None
  searched-all past =
      let many = ap length (parents_is x ∙ ap (map view) (sym s)) ∙ length-map es view in
      let none : drop i (parents (view x)) ≡ [] = drop_of_length-le (parents (view x)) (omega (arith, many)) in
      ap (option_map (at (view x))) (sym (searched ∙ ap (λ ts. first (joined_paths i (map answers ts))) none))

kept-under_parent : (b : Bool) (p : List ℕ) (i : ℕ) (ps : List (List ℕ)) → cond b ((i ∷ p) ∷ map (λ path. i ∷ path) ps) (map (λ path. i ∷ path) ps) ≡ map (λ path. i ∷ path) (cond b (p ∷ ps) ps)
kept-under_parent true p i ps = refl
kept-under_parent false p i ps = refl

-- a test at paths that lead over a parent is the test at the rest of them from this parent
filter-under_parent : (test : Tree → Bool) (x t : Tree) (i : ℕ) → slice_get (parents x) i ≡ Some t → (paths : List (List ℕ))
    → filter (passes_at test x) (map (λ path. i ∷ path) paths) ≡ map (λ path. i ∷ path) (filter (passes_at test t) paths)
filter-under_parent test x t i s [] = refl
filter-under_parent test x t i s (p ∷ ps) =
    rw (s, filter-under_parent test x t i s ps) (kept-under_parent (passes_at test t p) p i (filter (passes_at test t) ps))

-- the entries above of a type are those of the parents
types-above : (kind : EntryType) (x : Tree) (i : ℕ) (ts : Trees) → drop i (parents x) ≡ tree_list ts
    → filter (passes_at (is_of_type kind) x) (joined_paths i (depth_first_lists ts)) ≡ joined_paths i (map (entries_of_type kind) (tree_list ts))
types-above kind x i no_trees s = refl
types-above kind x i (one_more t ts) s =
    let test = is_of_type kind in
    let there = places_from (parents x) i t (tree_list ts) s in
    filter-append (passes_at test x) (map (λ path. i ∷ path) (depth_first_paths t)) (joined_paths (suc i) (depth_first_lists ts))
    ∙ rw (filter-under_parent test x t i there.0 (depth_first_paths t), types-above kind x (suc i) ts there.1) refl

pub types-searched : (kind : EntryType) (x : Entry) → sameb the_type (out-Entry x).entry_type kind ≡ false → Searched (entries_of_type kind) (entries_of_type kind (view x)) (view x) 0
types-searched kind x h = rw (view_is x, h) (ap first (types-above kind (node (fields_of (out-Entry x)) (above x)) 0 (above x) refl))

-- the first parent that passes a test, found among the entries
passing-from : (test : Tree → Bool) (x : Tree) (i : ℕ) (es : List Entry) → drop i (parents x) ≡ map view es
    → option_map (λ e. Some (view e)) (find (λ e. test (view e)) es) ≡ option_map (at x) (first (joined_paths i (map (λ p. cond (test p) ([] ∷ []) []) (map view es))))
passing-from test x i [] s = refl
passing-from test x i (e ∷ es) s =
    let there = places_from (parents x) i (view e) (map view es) s in
    passes (test (view e)) there.0 (passing-from test x (suc i) es there.1)
  where
    passes : (b : Bool) → slice_get (parents x) i ≡ Some (view e)
        → option_map (λ e. Some (view e)) (find (λ e. test (view e)) es) ≡ option_map (at x) (first (joined_paths (suc i) (map (λ p. cond (test p) ([] ∷ []) []) (map view es))))
        → option_map (λ e. Some (view e)) (cond b (Some e) (find (λ e. test (view e)) es))
        ≡ option_map (at x) (first (joined_paths i (cond b ([] ∷ []) [] ∷ map (λ p. cond (test p) ([] ∷ []) []) (map view es))))
    passes true place rest = rw place refl
    passes false place rest = rest

pub passing-found : (test : Tree → Bool) (tested : Entry → Bool) → ((e : Entry) → tested e ≡ test (view e)) → (x : Entry) (es : List Entry) (answer : Option (Bor Entry))
    → es ≡ (out-Entry x).parents.items → option_map (λ e. e.now) answer ≡ find tested es → IsAt (view x) (first (parents_passing test (view x))) answer
passing-found test tested same x es answer s h =
    let ps : parents (view x) ≡ map view es = parents_is x ∙ ap (map view) (sym s) in
    option_map-map answer ∙ ap (option_map (λ e. Some (view e))) (h ∙ (λ i. find (λ e. same e i) es)) ∙ passing-from test (view x) 0 es ps
    ∙ ap (λ ts. option_map (at (view x)) (first (joined_paths 0 (map (λ p. cond (test p) ([] ∷ []) []) ts)))) (sym ps)
  where
    option_map-map : (o : Option (Bor Entry)) → option_map (λ e. Some (view e.now)) o ≡ option_map (λ e. Some (view e)) (option_map (λ e. e.now) o)
    option_map-map None = refl
    option_map-map (Some e) = refl

-- the type of an entry is the type of its value
pub is_of_type-view : (kind : EntryType) (e : Entry) → sameb the_type (out-Entry e).entry_type kind ≡ is_of_type kind (view e)
is_of_type-view kind e = rw (view_is e) refl

pub is_collection_of-view : (kind : EntryType) (e : Entry) → (sameb the_type (out-Entry e).entry_type kind || sameb the_type (out-Entry e).entry_type Anthology) ≡ is_collection_of kind (view e)
is_collection_of-view kind e = rw (view_is e) refl

-- the collections of an entry whose parents may be these
pub collections-passing : (x : Entry) → is_collected (out-Entry x).entry_type ≡ true → collections (view x) ≡ parents_passing (is_collection_of (out-Entry x).entry_type) (view x)
collections-passing x h = rw (view_is x, h) refl

-- and of any other, those of the parents
collections-each : (ts : Trees) → collection_lists ts ≡ map collections (tree_list ts)
collections-each no_trees = refl
collections-each (one_more t ts) = ap (λ rest. collections t ∷ rest) (collections-each ts)

pub collections-searched : (x : Entry) → is_collected (out-Entry x).entry_type ≡ false → Searched collections (collections (view x)) (view x) 0
collections-searched x h = rw (view_is x, h) (ap (λ paths. first (joined_paths 0 paths)) (collections-each (above x)))

-- A search over types: none of those before place i is the type of a parent.
abbrev pub Tried : Tree → List EntryType → ℕ → Type 0
Tried x kinds i = first (containers x) ≡ first (flat_map (λ kind. parents_passing (is_of_type kind) x) (drop i kinds))

first-after : (xs ys : List (List ℕ)) → first xs ≡ None → first (xs ++ ys) ≡ first ys
first-after [] ys h = refl
first-after (x ∷ xs) ys h = cc

first-before : (x : Tree) (xs ys : List (List ℕ)) (answer : Bor Entry) → IsAt x (first xs) (Some answer) → first (xs ++ ys) ≡ first xs
first-before x [] ys answer h = cc
first-before x (p ∷ xs) ys answer h = refl

pub tried-first : (x : Entry) (kinds : List EntryType) → kinds ≡ container_types (out-Entry x).entry_type → Tried (view x) kinds 0
tried-first x kinds h = rw (h, view_is x) refl

module _ (x : Tree) (kinds : List EntryType) (i : ℕ) (tried : Tried x kinds i) where
  abbrev of_kinds : List EntryType → List (List ℕ)
  of_kinds ks = flat_map (λ kind. parents_passing (is_of_type kind) x) ks

  module _ (d : EntryType) (within : i < length kinds) where
    abbrev of_kind : List (List ℕ)
    of_kind = parents_passing (is_of_type (get_or kinds i d)) x

    of_kind-first : first (containers x) ≡ first (of_kind ++ of_kinds (drop (suc i) kinds))
    of_kind-first = tried ∙ ap (λ ks. first (of_kinds ks)) (drop-cons kinds i d within)

    pub tried-next : IsAt x (first of_kind) None → Tried x kinds (i + 1)
    tried-next none = rw add-one (of_kind-first ∙ first-after of_kind (of_kinds (drop (suc i) kinds)) (path-none x (first of_kind) none))

    pub tried-found : (answer : Bor Entry) → IsAt x (first of_kind) (Some answer) → IsAt x (first (containers x)) (Some answer)
    tried-found answer some = some ∙ ap (option_map (at x)) (sym (of_kind-first ∙ first-before x of_kind (of_kinds (drop (suc i) kinds)) answer some))

  pub tried-all : length kinds ≤ i → IsAt x (first (containers x)) None
  tried-all past =
      let none : drop i kinds ≡ [] = drop_of_length-le kinds past in
      ap (option_map (at x)) (sym (tried ∙ ap (λ ks. first (of_kinds ks)) none))

-- an entry without parents
pub full-alone : (x : Tree) → slice_get (parents x) 0 ≡ None → full_path x ≡ Some []
full-alone (node f no_trees) h = alone (is_full (node f no_trees))
  where
    alone : (b : Bool) → option_or {T = List ℕ} (first (cond b ([] ∷ []) [])) (Some []) ≡ Some []
    alone true = refl
    alone false = refl
full-alone (node f (one_more t ts)) h = cc

last_or-map : {A B : Type 0} (f : A → B) (o : Option A) (xs : List A) → last_or (option_map f o) (map f xs) ≡ option_map f (last_or o xs)
last_or-map f o [] = refl
last_or-map f o (x ∷ xs) = last_or-map f (Some x) xs

last-line : (t : Tree) → last_or None ([] ∷ map (λ path. 0 ∷ path) (line_of_first_parents t)) ≡ option_map (λ path. 0 ∷ path) (last_or None (line_of_first_parents t))
last-line (node f ps) = last_or-map (λ path. 0 ∷ path) (Some []) (map (λ path. 0 ∷ path) (line_above ps))

first-under_parent : (i : ℕ) (ps : List (List ℕ)) → first (map (λ path. i ∷ path) ps) ≡ option_map (λ path. i ∷ path) (first ps)
first-under_parent i ps = slice_get-map (λ path. i ∷ path) ps 0

-- any other entry: its first parent stands for it
pub full-above : (x t : Tree) → is_full x ≡ false → slice_get (parents x) 0 ≡ Some t → option_map (at x) (full_path x) ≡ option_map (at t) (full_path t)
full-above (node f no_trees) t h s = cc
full-above (node f (one_more u ts)) t h s =
    let e : u ≡ t = cc in
    let x = node f (one_more u ts) in
    rw (← e, h, filter-under_parent is_full x u 0 refl (line_of_first_parents u), first-under_parent 0 (filter (passes_at is_full u) (line_of_first_parents u)), last-line u)
    (either (first (filter (passes_at is_full u) (line_of_first_parents u))) (last_or None (line_of_first_parents u)))
  where
    either : (a b : Option (List ℕ)) → option_map (at (node f (one_more u ts))) (option_or (option_map (λ path. 0 ∷ path) a) (option_map (λ path. 0 ∷ path) b)) ≡ option_map (at u) (option_or a b)
    either (Some p) b = refl
    either None (Some p) = refl
    either None None = refl

-- the first parent of an entry, by value
pub first-parent : (x : Entry) (es : List Entry) (o : Option (Bor Entry)) → es ≡ (out-Entry x).parents.items → option_copied o ≡ slice_get es 0 → slice_get (parents (view x)) 0 ≡ option_map (λ e. view e.now) o
first-parent x es o s h =
    ap (λ ts. slice_get ts 0) (parents_is x ∙ ap (map view) (sym s)) ∙ slice_get-map view es 0 ∙ ap (option_map view) (sym h) ∙ copied o
  where
    copied : (o : Option (Bor Entry)) → option_map view (option_copied o) ≡ option_map (λ e. view e.now) o
    copied None = refl
    copied (Some e) = refl
