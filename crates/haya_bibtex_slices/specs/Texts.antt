-- Items, put together to a text.
use Rattle.std.specs.Prelude.{ℕ, Bool, List, [], ◌∷◌, ◌++◌, flat_map, is_none}
use Rattle.haya_bibtex_slices.specs.Items.{Item}

-- a preamble, or a definition of strings
abbrev pub is_definition : Item → Bool
is_definition i = is_none i.key

-- a part, and the end of its last line
abbrev pub ended : List ℕ → List ℕ
ended part = part ++ 10 ∷ []

-- parts one behind the other, with an empty line between two
abbrev pub items_text : List (List ℕ) → List ℕ
items_text [] = []
items_text (p ∷ ps) = ended p ++ flat_map (λ q. 10 ∷ ended q) ps
