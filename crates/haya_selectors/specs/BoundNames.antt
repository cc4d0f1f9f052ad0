-- The names that a selector binds.
use Rattle.std.specs.Prelude.{ℕ, not, List, [], ◌∷◌, ◌++◌, filter}
use Rattle.std.specs.Str.{bytes_eq}
use Rattle.haya_selectors.specs.Syntax.{Syntax, Wildcard, Entry, Neg, Binding, Attr, Alt, Multi, Ancestrage, Syntaxes, none, more}

-- each as often as it is bound, from left to right, and a form's own name behind those inside the
-- form
abbrev mutual
  pub bound_names : Syntax → List (List ℕ)
  bound_names Wildcard = []
  bound_names (Entry t) = []
  bound_names (Neg s) = bound_names s
  bound_names (Binding n s) = bound_names s ++ n ∷ []
  bound_names (Attr s names) = bound_names s
  bound_names (Alt ss) = all_bound_names ss
  bound_names (Multi ss) = all_bound_names ss
  bound_names (Ancestrage l r) = bound_names l ++ bound_names r

  pub all_bound_names : Syntaxes → List (List ℕ)
  all_bound_names none = []
  all_bound_names (more s ss) = bound_names s ++ all_bound_names ss

-- those that a form binds behind its first part, with its own
abbrev pub later_of : Syntaxes → List (List ℕ)
later_of none = []
later_of (more s ss) = all_bound_names ss

abbrev pub later_names : Syntax → List (List ℕ)
later_names Wildcard = []
later_names (Entry t) = []
later_names (Neg s) = []
later_names (Binding n s) = n ∷ []
later_names (Attr s names) = []
later_names (Alt ss) = later_of ss
later_names (Multi ss) = later_of ss
later_names (Ancestrage l r) = bound_names r

-- the distinct names of a list, each at its first place
abbrev pub distinct_names : List (List ℕ) → List (List ℕ)
distinct_names [] = []
distinct_names (n ∷ ns) = n ∷ filter (λ m. not (bytes_eq n m)) (distinct_names ns)
