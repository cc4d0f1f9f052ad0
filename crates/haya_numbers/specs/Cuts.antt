-- Where the text of a range is cut, all by characters.
use Rattle.std.specs.Prelude.{◌==◌, ◌||◌, ◌&&◌, ℕ, Bool, List, [], ◌∷◌, if◌then◌else◌}
use Rattle.std.specs.List.{onto_first, slice_split}
use Rattle.haya_text.specs.Characters.{hyphen}
use Rattle.haya_numbers.specs.Characters.{en_dash}

abbrev pub backslash : ℕ
backslash = 92

-- a hyphen or an en dash
abbrev pub is_dash : ℕ → Bool
is_dash c = c == hyphen || c == en_dash

-- the parts round each dash
abbrev pub dash_split : List ℕ → List (List ℕ)
dash_split cs = slice_split is_dash cs

-- the parts round each escaped hyphen: a hyphen directly behind a backslash
abbrev pub escaped_split : List ℕ → List (List ℕ)
escaped_split [] = [] ∷ []
escaped_split (c ∷ []) = (c ∷ []) ∷ []
escaped_split (c ∷ d ∷ cs) =
    if c == backslash && d == hyphen then [] ∷ escaped_split cs
    else onto_first c (escaped_split (d ∷ cs))
