-- How often each name of a list comes.
use Rattle.std.specs.Prelude.{ℕ, ◌+◌, ◌-◌, ◌^◌, min, not, List, [], ◌∷◌, map, filter, fold, count_by, unwrap_or, String, string_bytes}
use Rattle.std.specs.Map.{lookup}
use Rattle.std.specs.Str.{bytes_eq}
use Rattle.indexmap.specs.IndexMap.{insert_entry}

-- names, each with how often it comes
abbrev pub Counts : Type 0
Counts = List (List ℕ × ℕ)

-- the names of a list, each once, in the order in which they first come
abbrev pub distinct : List (List ℕ) → List (List ℕ)
distinct [] = []
distinct (name ∷ names) = name ∷ filter (λ other. not (bytes_eq name other)) (distinct names)

-- A count goes to 2 ^ 64 - 1, and stays there.
abbrev pub as_count : ℕ → ℕ
as_count n = min n (2 ^ 64 - 1)

-- how often a name comes in a list
abbrev pub times : List ℕ → List (List ℕ) → ℕ
times name names = as_count (count_by (bytes_eq name) names)

-- the names of a list, each once and with how often it comes, in the order in which they first come
abbrev pub tally : List (List ℕ) → Counts
tally names = map (λ name. (name, times name names)) (distinct names)

-- ---- step by step

-- counts under texts, by value
abbrev pub by_bytes : {B : Type 0} → List (String B × ℕ) → Counts
by_bytes es = map (λ e. (string_bytes e.0, e.1)) es

-- the count of a name, 0 where it has none
abbrev pub count_of : List ℕ → Counts → ℕ
count_of name counts = unwrap_or (lookup (bytes_eq name) counts) 0

-- the counts after the name comes once more
abbrev pub counted : List ℕ → Counts → Counts
counted name counts = insert_entry bytes_eq counts name (as_count (count_of name counts + 1))

-- the counts after each of these names comes once more, in turn
abbrev pub all_counted : List (List ℕ) → Counts → Counts
all_counted names counts = fold (λ so_far name. counted name so_far) counts names
