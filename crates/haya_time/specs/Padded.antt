-- Numbers in digits of a width.
use Rattle.std.specs.Prelude.{ℕ, ◌-◌, List, ◌++◌, length, replicate}
use Rattle.std.specs.Fmt.{decimal}

abbrev pub digit_zero : ℕ
digit_zero = 48

-- the decimal digits of a number, with zeros before them up to this width
abbrev pub padded_decimal : ℕ → ℕ → List ℕ
padded_decimal width n = replicate (width - length (decimal n)) digit_zero ++ decimal n
