-- A library by value: a list of entries, no two of which have the same key.
use Rattle.std.specs.Prelude.{◌≡◌, ◌≢◌, ℕ, Bool, not, List, [], ◌∷◌, ◌++◌, Option, map, filter, find, fold, if◌then◌else◌}
use Rattle.std.specs.List.{list_any, AllPairs}
use Rattle.std.specs.Str.{bytes_eq}
use Rattle.haya_entry.specs.Tree.{Tree, fields}

abbrev pub key_of : Tree → List ℕ
key_of t = (fields t).key

abbrev pub has_key : List ℕ → Tree → Bool
has_key key t = bytes_eq key (key_of t)

abbrev pub AreDistinct : List Tree → Type 0
AreDistinct ts = AllPairs (λ k l. k ≢ l) (map key_of ts)

-- the entry with the key
abbrev pub get : List ℕ → List Tree → Option Tree
get key ts = find (has_key key) ts

-- the list with t in the place of the entry that has its key
abbrev pub with_replacement : Tree → List Tree → List Tree
with_replacement t ts = map (λ u. if has_key (key_of t) u then t else u) ts

-- the list with t in the place of the entry that has its key, or last
abbrev pub push : Tree → List Tree → List Tree
push t ts = if list_any (has_key (key_of t)) ts then with_replacement t ts else ts ++ t ∷ []

-- the list after each of these is pushed in turn to an empty one
abbrev pub from_entries : List Tree → List Tree
from_entries ts = fold (λ done t. push t done) [] ts

-- the list without the entry that has the key
abbrev pub remove : List ℕ → List Tree → List Tree
remove key ts = filter (λ t. not (has_key key t)) ts

-- the same keys with the same entries, in whatever order
abbrev pub AreEqual : List Tree → List Tree → Type 0
AreEqual a b = (key : List ℕ) → get key a ≡ get key b
