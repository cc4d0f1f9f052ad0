-- Tables of words, by their bytes.
use Rattle.std.specs.Prelude.{ℕ, Bool, true, ◌&&◌, List, [], ◌∷◌, map}
use Rattle.std.specs.Borrow.{Bor}
use Rattle.std.specs.Cmp.Lexicographic.{slice_cmp}
use Rattle.std.specs.List.{list_any}
use Rattle.std.specs.Ordering.{is_le, nat_cmp}
use Rattle.std.specs.Str.{bytes_eq}

-- the texts of a table
abbrev pub texts : List (Bor (List ℕ)) → List (List ℕ)
texts table = map (λ t. t.now) table

-- whether each text is at most the next one, by bytes
abbrev pub is_sorted_table : List (List ℕ) → Bool
is_sorted_table [] = true
is_sorted_table (text ∷ []) = true
is_sorted_table (text ∷ next ∷ rest) =
    is_le (slice_cmp nat_cmp text next) && is_sorted_table (next ∷ rest)

-- whether a text is one of the table
abbrev pub is_listed : List (List ℕ) → List ℕ → Bool
is_listed table text = list_any (bytes_eq text) table
