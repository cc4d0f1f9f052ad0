-- What `==` of two libraries answers.
use Rattle.std.specs.Prelude.{ℕ, Bool, List, ◌++◌, map}
use Rattle.std.specs.List.{list_all}
use Rattle.std.specs.Option.{option_eq}
use Rattle.haya_entry.specs.Tree.{Tree}
use Rattle.hayagriva.specs.Library.{key_of, get}
use Rattle.hayagriva.specs.TreeCode.{same_tree}

-- whether both have the same entry under the key, or none
abbrev pub agree_at : List Tree → List Tree → List ℕ → Bool
agree_at a b key = option_eq same_tree (get key a) (get key b)

-- whether they agree at each key of either
abbrev pub library_eq : List Tree → List Tree → Bool
library_eq a b = list_all (agree_at a b) (map key_of a ++ map key_of b)
