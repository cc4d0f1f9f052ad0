-- Where a selector holds, and what its names are bound to, in words of entries: no places. Laws say
-- that they are the same.
use Rattle.std.specs.Prelude.{ℕ, Bool, true, false, not, ◌||◌, ◌&&◌, if◌then◌else◌, List, [], ◌∷◌, Option, None, Some, is_some, filter, find, map, option_and_then, option_map}
use Rattle.std.specs.List.{list_any}
use Rattle.std.specs.Option.{option_map_or, option_or}
use Rattle.std.specs.Str.{bytes_eq}
use Rattle.haya_entry.specs.Names.{is_of_type, has_name}
use Rattle.haya_entry.specs.Tree.{Tree, parents}
use Rattle.haya_selectors.specs.Syntax.{Syntax, Wildcard, Entry, Neg, Binding, Attr, Alt, Multi, Ancestrage, Syntaxes, none, more}

-- whether the entry has every name
abbrev pub has_names : List (List ℕ) → Tree → Bool
has_names [] x = true
has_names (n ∷ []) x = has_name x n
has_names (n ∷ names) x = has_name x n && has_names names x

-- whether the first entry that passes has every name
abbrev pub first_has : List (List ℕ) → (Tree → Bool) → List Tree → Bool
first_has names test xs = option_map_or (has_names names) (find test xs) false

-- the first entry that passes, if it has every name
abbrev pub first_if : List (List ℕ) → (Tree → Bool) → List Tree → Option Tree
first_if names test xs =
    option_and_then (λ x. if has_names names x then Some x else None) (find test xs)

-- the entries, if there are any
abbrev pub some_entries : List Tree → Option (List Tree)
some_entries [] = None
some_entries (x ∷ xs) = Some (x ∷ xs)

-- those that have every name; where there are none, nothing is tested
abbrev pub with_names : List (List ℕ) → List Tree → Option (List Tree)
with_names names [] = Some []
with_names names (x ∷ xs) = some_entries (filter (has_names names) (x ∷ xs))

abbrev pub first_entry : Option (List Tree) → Option Tree
first_entry None = None
first_entry (Some []) = None
first_entry (Some (x ∷ xs)) = Some x

-- each item beside the others, in order
abbrev pub choices : {X : Type 0} → List X → List (X × List X)
choices [] = []
choices (x ∷ xs) = (x, xs) ∷ map (λ c. (c.0, x ∷ c.1)) (choices xs)

-- the first choice of an entry that passes beside others that pass
abbrev pub first_choice : (Tree → Bool) → (List Tree → Bool) → List Tree →
    Option (Tree × List Tree)
first_choice test others_pass xs = find (λ c. test c.0 && others_pass c.1) (choices xs)

-- an entry, or otherwise the one before
abbrev pub or_before : Option Tree → Option Tree → Option Tree
or_before o None = o
or_before o (Some x) = option_or o (Some x)

abbrev mutual
  -- whether the selector holds at an entry
  pub picks : Syntax → Tree → Bool
  picks Wildcard x = true
  picks (Entry t) x = is_of_type t x
  picks (Neg s) x = not (picks s x)
  picks (Binding n s) x = picks s x
  picks (Attr s names) x = picks s x && has_names names x
  picks (Alt ss) x = some_picks ss x
  picks (Multi ss) x = false
  picks (Ancestrage l r) x = picks l x && stands r (parents x)

  pub some_picks : Syntaxes → Tree → Bool
  some_picks none x = false
  some_picks (more s none) x = picks s x
  some_picks (more s ss) x = picks s x || some_picks ss x

  -- whether it holds on a list of parents
  pub stands : Syntax → List Tree → Bool
  stands Wildcard xs = list_any (λ x. true) xs
  stands (Entry t) xs = list_any (is_of_type t) xs
  stands (Neg s) xs = not (stands s xs)
  stands (Binding n s) xs = stands s xs
  stands (Attr Wildcard names) xs = list_any (has_names names) xs
  stands (Attr (Entry t) names) xs = first_has names (is_of_type t) xs
  stands (Attr (Neg s) names) xs = not (stands s xs)
  stands (Attr (Binding n s) names) xs = stands s xs
  stands (Attr (Ancestrage l r) names) xs =
      first_has names (λ x. picks l x && stands r (parents x)) xs
  stands (Attr s names) xs = is_some (option_and_then (with_names names) (candidate_entries s xs))
  stands (Alt ss) xs = some_stands ss xs
  stands (Multi ss) xs = each_stands ss xs
  stands (Ancestrage l r) xs = list_any (λ x. picks l x && stands r (parents x)) xs

  pub some_stands : Syntaxes → List Tree → Bool
  some_stands none xs = false
  some_stands (more s none) xs = stands s xs
  some_stands (more s ss) xs = stands s xs || some_stands ss xs

  -- whether there is a way to give each member an entry of its own, where it holds
  pub each_stands : Syntaxes → List Tree → Bool
  each_stands none xs = true
  each_stands (more s none) xs = list_any (picks s) xs
  each_stands (more s ss) xs = list_any (λ c. picks s c.0 && each_stands ss c.1) (choices xs)

  -- the parents that the selector stands for, or none where it doesn't hold on the list
  pub candidate_entries : Syntax → List Tree → Option (List Tree)
  candidate_entries Wildcard xs = some_entries xs
  candidate_entries (Entry t) xs = option_map (λ x. x ∷ []) (find (is_of_type t) xs)
  candidate_entries (Neg s) xs = if stands s xs then None else Some []
  candidate_entries (Binding n s) xs = option_map (λ _. []) (candidate_entries s xs)
  candidate_entries (Attr s names) xs = option_and_then (with_names names) (candidate_entries s xs)
  candidate_entries (Alt ss) xs = first_entries ss xs
  candidate_entries (Multi ss) xs = each_entry ss xs
  candidate_entries (Ancestrage l r) xs =
      option_map (λ x. x ∷ []) (find (λ x. picks l x && stands r (parents x)) xs)

  -- those of the first member that holds
  pub first_entries : Syntaxes → List Tree → Option (List Tree)
  first_entries none xs = None
  first_entries (more s ss) xs = option_or (candidate_entries s xs) (first_entries ss xs)

  -- the entries of the members by the first such way: the first choice for the first member that
  -- leaves a way for the others
  pub each_entry : Syntaxes → List Tree → Option (List Tree)
  each_entry none xs = Some []
  each_entry (more s none) xs = option_map (λ x. x ∷ []) (find (picks s) xs)
  each_entry (more s ss) xs =
      option_and_then (λ c. option_map (λ ys. c.0 ∷ ys) (each_entry ss c.1))
      (first_choice (picks s) (each_stands ss) xs)

abbrev mutual
  -- the first of the parents that the selector stands for
  pub first_candidate : Syntax → List Tree → Option Tree
  first_candidate Wildcard xs = find (λ x. true) xs
  first_candidate (Entry t) xs = find (is_of_type t) xs
  first_candidate (Attr Wildcard names) xs = find (has_names names) xs
  first_candidate (Attr (Entry t) names) xs = first_if names (is_of_type t) xs
  first_candidate (Alt ss) xs = candidate_of_first ss xs
  first_candidate (Ancestrage l r) xs = find (λ x. picks l x && stands r (parents x)) xs
  first_candidate s xs = first_entry (candidate_entries s xs)

  -- that of the first member that holds
  pub candidate_of_first : Syntaxes → List Tree → Option Tree
  candidate_of_first none xs = None
  candidate_of_first (more s none) xs = first_candidate s xs
  candidate_of_first (more s ss) xs =
      if stands s xs then first_candidate s xs else candidate_of_first ss xs

abbrev mutual
  -- whether the name appears in the selector
  pub binds_name : List ℕ → Syntax → Bool
  binds_name q Wildcard = false
  binds_name q (Entry t) = false
  binds_name q (Neg s) = false
  binds_name q (Binding n s) = bytes_eq n q || binds_name q s
  binds_name q (Attr s names) = binds_name q s
  binds_name q (Alt ss) = some_binds_name q ss
  binds_name q (Multi ss) = some_binds_name q ss
  binds_name q (Ancestrage l r) = binds_name q l || binds_name q r

  pub some_binds_name : List ℕ → Syntaxes → Bool
  some_binds_name q none = false
  some_binds_name q (more s ss) = binds_name q s || some_binds_name q ss

-- what a member that has the name binds it to at an entry
abbrev pub at_entry : List ℕ → Syntax → (Option Tree → Tree → Option Tree) → Option Tree → Tree →
    Option Tree
at_entry q s called before x = if binds_name q s then called before x else before

-- and at the first entry where it holds
abbrev pub within : List ℕ → Syntax → (Option Tree → Tree → Option Tree) → Option Tree → List Tree →
    Option Tree
within q s called before xs =
    if binds_name q s then option_map_or (called before) (find (picks s) xs) before else before

abbrev pub at_first : List ℕ → Syntax → (Option Tree → Tree → Option Tree) → Option Tree →
    List Tree → Option Tree
at_first q (Binding n s) called before xs =
    if bytes_eq n q then or_before (find (picks s) xs) before else within q s called before xs
at_first q s called before xs = within q s called before xs

abbrev mutual
  -- what a name is bound to at an entry where the selector holds; what it was bound to before, if
  -- it is bound to nothing there
  pub entry_called : List ℕ → Syntax → Option Tree → Tree → Option Tree
  entry_called q Wildcard before x = before
  entry_called q (Entry t) before x = before
  entry_called q (Neg s) before x = before
  entry_called q (Binding n s) before x = if bytes_eq n q then Some x else entry_called q s before x
  entry_called q (Attr s names) before x = entry_called q s before x
  entry_called q (Alt ss) before x =
      if some_binds_name q ss then called_by_first q ss before x else before
  entry_called q (Multi ss) before x = before
  entry_called q (Ancestrage l r) before x =
      parent_called q r (entry_called q l before x) (parents x)

  -- by the first member that holds
  pub called_by_first : List ℕ → Syntaxes → Option Tree → Tree → Option Tree
  called_by_first q none before x = before
  called_by_first q (more s ss) before x =
      if picks s x then entry_called q s before x else called_by_first q ss before x

  -- the same on a list of parents
  pub parent_called : List ℕ → Syntax → Option Tree → List Tree → Option Tree
  parent_called q Wildcard before xs = before
  parent_called q (Entry t) before xs = before
  parent_called q (Neg s) before xs = before
  parent_called q (Binding n s) before xs =
      if bytes_eq n q then or_before (first_candidate s xs) (parent_called q s before xs) else
      parent_called q s before xs
  parent_called q (Attr s names) before xs = parent_called q s before xs
  parent_called q (Alt ss) before xs =
      if some_binds_name q ss then parent_called_by_first q ss before xs else before
  parent_called q (Multi ss) before xs = each_called q ss before xs
  parent_called q (Ancestrage l r) before xs =
      option_map_or (λ x. parent_called q r (entry_called q l before x) (parents x))
      (find (λ x. picks l x && stands r (parents x)) xs) before

  pub parent_called_by_first : List ℕ → Syntaxes → Option Tree → List Tree → Option Tree
  parent_called_by_first q none before xs = before
  parent_called_by_first q (more s ss) before xs =
      if stands s xs then parent_called q s before xs else parent_called_by_first q ss before xs

  -- by each member that has the name, at its entry by the first way to give each one
  pub each_called : List ℕ → Syntaxes → Option Tree → List Tree → Option Tree
  each_called q none before xs = before
  each_called q (more s none) before xs = at_first q s (entry_called q s) before xs
  each_called q (more s ss) before xs =
      if some_binds_name q (more s ss) then
      option_map_or (λ c. each_called q ss (at_entry q s (entry_called q s) before c.0) c.1)
      (first_choice (picks s) (each_stands ss) xs) before else before

-- the entry that a name is bound to, where the selector holds
abbrev pub named_entry : Syntax → List ℕ → Tree → Option Tree
named_entry s q x = entry_called q s None x
