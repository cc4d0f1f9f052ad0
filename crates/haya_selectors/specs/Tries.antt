-- What trying each member of `&` at each entry finds, and what is kept of it.
use Rattle.std.specs.Prelude.{ℕ, zero, suc, Bool, if◌then◌else◌, List, [], ◌∷◌, ◌++◌, Option, drop, flat_map, get_or, length, map, take}
use Rattle.std.specs.List.{list_all, list_any}
use Rattle.haya_assignment.specs.Assignment.{Table}
use Rattle.haya_entry.specs.Tree.{Tree, at}
use Rattle.haya_selectors.specs.Binds.{binds}
use Rattle.haya_selectors.specs.declared.tries.Tries.{Tries}
use Rattle.haya_selectors.specs.Evaluation.{pair_entries}
use Rattle.haya_selectors.specs.Holds.{holds}
use Rattle.haya_selectors.specs.Syntax.{Syntax, Syntaxes, none, more}

-- pairs with their entries, as one try adds them
abbrev pub Piece : Type 0
Piece = List (List ℕ × Option Tree)

-- what a try of the selector at an entry adds
abbrev pub tried : Syntax → Tree → Piece
tried s x = pair_entries (at x) (if holds s x then binds s x else [])

-- for each member a row, with what its try at each entry adds
abbrev pub all_tried : Syntaxes → List Tree → List (List Piece)
all_tried none xs = []
all_tried (more s ss) xs = map (tried s) xs ∷ all_tried ss xs

-- the pieces of a row joined, and those of all rows
abbrev pub joined : {A : Type 0} → List (List A) → List A
joined pieces = flat_map (λ piece. piece) pieces

abbrev pub all_joined : {A : Type 0} → List (List (List A)) → List A
all_joined rows = flat_map joined rows

-- the piece at the place of each row, joined
abbrev pub joined_at : {A : Type 0} → List (List (List A)) → List ℕ → List A
joined_at [] is = []
joined_at (row ∷ rows) [] = []
joined_at (row ∷ rows) (i ∷ is) = get_or row i [] ++ joined_at rows is

-- how long the pieces of a row are, and those of each row
abbrev pub lengths : {A : Type 0} → List (List A) → List ℕ
lengths pieces = map (λ piece. length piece) pieces

abbrev pub all_lengths : {A : Type 0} → List (List (List A)) → List (List ℕ)
all_lengths rows = map lengths rows

-- a list in rows of this width, so many of them
abbrev pub rows_of : {A : Type 0} → ℕ → ℕ → List A → List (List A)
rows_of width zero items = []
rows_of width (suc count) items = take width items ∷ rows_of width count (drop width items)

-- of all tries in order: where the members hold, and how long the pieces are
abbrev pub all_held : Tries → List Bool
all_held tries = map (λ t. t.held) tries.tries.items

abbrev pub all_found : Tries → List ℕ
all_found tries = map (λ t. t.found) tries.tries.items

-- the same by rows, one a member
abbrev pub held_rows : ℕ → ℕ → Tries → Table
held_rows parents members tries = rows_of parents members (all_held tries)

abbrev pub found_rows : ℕ → ℕ → Tries → List (List ℕ)
found_rows parents members tries = rows_of parents members (all_found tries)

-- whether each member holds at some entry
abbrev pub each_holds : Table → Bool
each_holds table = list_all (λ held. list_any (λ holds. holds) held) table
