-- Lines that are the content of a block scalar.
use Rattle.std.proofs.Common.{◌≡◌, ℕ, ◌<◌, ◌≤◌, ◌&&◌, ◌||◌, List, [], ◌∷◌, length, drop, Bool, true, false, Option, refl, length-drop, arith}
use Rattle.std.specs.Prelude.{nat_le}
use Rattle.haya_yaml.specs.Line.{indent}
use Rattle.haya_yaml_text.specs.Signs.{is_empty}
use Rattle.haya_yaml.specs.Literal.{is_bare, is_content, is_inside}

nothing : (xs : List ℕ) → is_empty xs ≡ true → length xs ≡ 0
nothing [] e = refl
nothing (x ∷ xs) e = grind (arith, e)

past_all : (n : ℕ) (xs : List ℕ) → is_empty (drop n xs) ≡ true → length xs ≤ n
past_all n xs e = omega (arith, length-drop n xs, nothing (drop n xs) e)

fits_if : (edge : Option ℕ) (w : ℕ) (line : List ℕ) (bare : Bool) → is_bare line ≡ bare → (bare || (is_inside edge (indent line) && nat_le w (indent line))) ≡ true
    → w < length line → w ≤ indent line
fits_if edge w line true is e less = let all = past_all (indent line) line is in omega (arith, all, less)
fits_if edge w line false is e less = grind (arith, e)

-- a line of content that is longer than the width begins with so many spaces
pub content_fits : (edge : Option ℕ) (w : ℕ) (line : List ℕ) → is_content edge w line ≡ true → w < length line → w ≤ indent line
content_fits edge w line e less = fits_if edge w line (is_bare line) refl e less
