-- What a text begins with.
use Rattle.std.specs.Prelude.{ℕ, ◌==◌, ◌&&◌, Bool, true, false, List, [], ◌∷◌, map}
use Rattle.std.specs.Char.{is_ascii_alphabetic, is_whitespace, to_ascii_lowercase}

-- whether a text begins with another
abbrev pub begins_with : List ℕ → List ℕ → Bool
begins_with [] text = true
begins_with (c ∷ cs) [] = false
begins_with (c ∷ cs) (x ∷ xs) = (x == c) && begins_with cs xs

-- whether it does so in any case: the front is in lower case
abbrev pub begins_in_any_case : List ℕ → List ℕ → Bool
begins_in_any_case front text = begins_with front (map to_ascii_lowercase text)

abbrev pub begins_white : List ℕ → Bool
begins_white [] = false
begins_white (x ∷ xs) = is_whitespace x

abbrev pub begins_letter : List ℕ → Bool
begins_letter [] = false
begins_letter (x ∷ xs) = is_ascii_alphabetic x
