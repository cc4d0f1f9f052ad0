-- Digits, and what is behind them.
use Rattle.std.specs.Prelude.{ℕ, ◌+◌, ◌-◌, ◌*◌, ◌==◌, ◌&&◌, nat_le, List, [], ◌∷◌, if◌then◌else◌, Option, None, Some}
use Rattle.std.specs.Char.{is_ascii_digit}

-- the value of a digit of ASCII
abbrev pub digit : ℕ → Option ℕ
digit c = if nat_le 48 c && nat_le c 57 then Some (c - 48) else None

abbrev pub tens : Option ℕ → Option ℕ → Option ℕ
tens None b = None
tens (Some a) None = None
tens (Some a) (Some b) = Some (a * 10 + b)

-- the value of two digits
abbrev pub two_digits : ℕ → ℕ → Option ℕ
two_digits a b = tens (digit a) (digit b)

abbrev pub hundreds : Option ℕ → Option ℕ → Option ℕ
hundreds None b = None
hundreds (Some a) None = None
hundreds (Some a) (Some b) = Some (a * 100 + b)

-- the value of a text of four digits
abbrev pub four_digits : List ℕ → Option ℕ
four_digits (a ∷ b ∷ c ∷ d ∷ []) = hundreds (two_digits a b) (two_digits c d)
four_digits text = None

-- the value of a text of one digit, or two, in UTF-8
abbrev pub short_number : List ℕ → Option ℕ
short_number (a ∷ []) = digit a
short_number (a ∷ b ∷ []) = two_digits a b
short_number text = None

-- what is behind this sign at the front of a text
abbrev pub behind_sign : ℕ → List ℕ → Option (List ℕ)
behind_sign c [] = None
behind_sign c (x ∷ xs) = if x == c then Some xs else None

-- what is behind two digits at the front of a text
abbrev pub behind_two : List ℕ → Option (List ℕ)
behind_two (a ∷ b ∷ rest) = if is_ascii_digit a && is_ascii_digit b then Some rest else None
behind_two text = None
