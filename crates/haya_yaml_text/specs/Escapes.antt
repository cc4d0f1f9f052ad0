-- What `\` and the signs behind it mean in double quotes.
use Rattle.std.specs.Prelude.{ℕ, ◌+◌, ◌-◌, ◌*◌, ◌==◌, ◌&&◌, ◌||◌, nat_le, nat_lt, List, [], ◌∷◌, Bool, drop, Option, Some, None, option_map, option_and_then, if◌then◌else◌}
use Rattle.haya_yaml_text.specs.declared.sign.Sign.{Sign}
use Rattle.haya_yaml_text.specs.declared.sign.Sign.TheVariants.{Wrong, Joins, Means}

-- the character that an escape of one sign means
abbrev pub short : ℕ → Option ℕ
short c =
    if c == 48 then Some 0 else if c == 97 then Some 7 else if c == 98 then Some 8
    else if (c == 116) || (c == 9) then Some 9 else if c == 110 then Some 10
    else if c == 118 then Some 11 else if c == 102 then Some 12 else if c == 114 then Some 13
    else if c == 101 then Some 27 else if c == 32 then Some 32 else if c == 34 then Some 34
    else if c == 47 then Some 47 else if c == 92 then Some 92 else if c == 78 then Some 133
    else if c == 95 then Some 160 else if c == 76 then Some 8232 else if c == 80 then Some 8233
    else None

-- the value of a hexadecimal digit
abbrev pub digit : ℕ → Option ℕ
digit c =
    if nat_le 48 c && nat_le c 57 then Some (c - 48)
    else if nat_le 65 c && nat_le c 70 then Some (c - 55)
    else if nat_le 97 c && nat_le c 102 then Some (c - 87) else None

-- the number that 2, 4 or 8 digits write
abbrev pub joined : ℕ → Option ℕ → Option ℕ → Option ℕ
joined base high low = option_and_then (λ h. option_map (λ l. h * base + l) low) high

abbrev pub hex2 : List ℕ → Option ℕ
hex2 [] = None
hex2 (c ∷ []) = None
hex2 (c ∷ d ∷ cs) = joined 16 (digit c) (digit d)

abbrev pub hex4 : List ℕ → Option ℕ
hex4 text = joined 256 (hex2 text) (hex2 (drop 2 text))

abbrev pub hex8 : List ℕ → Option ℕ
hex8 text = joined 65536 (hex4 text) (hex4 (drop 4 text))

abbrev pub is_high : ℕ → Bool
is_high n = nat_le 55296 n && nat_lt n 56320

abbrev pub is_low : ℕ → Bool
is_low n = nat_le 56320 n && nat_lt n 57344

-- the number is a character
abbrev pub is_character : ℕ → Bool
is_character n = nat_lt n 55296 || (nat_lt 57343 n && nat_lt n 1114112)

-- a character that is written with so many signs
abbrev pub character : ℕ → Option ℕ → Sign
character count None = Wrong
character count (Some n) = if is_character n then Means n count else Wrong

-- the escape of a low surrogate stands here
abbrev pub low_escape : List ℕ → Option ℕ
low_escape [] = None
low_escape (c ∷ []) = None
low_escape (c ∷ d ∷ cs) = if (c == 92) && (d == 117) then hex4 cs else None

-- the character of a high and a low surrogate
abbrev pub pair : ℕ → Option ℕ → Sign
pair high None = Wrong
pair high (Some low) =
    if is_low low then Means (65536 + (high - 55296) * 1024 + (low - 56320)) 11 else Wrong

abbrev pub unicode_if : List ℕ → Option ℕ → Sign
unicode_if text None = Wrong
unicode_if text (Some n) =
    if is_high n then pair n (low_escape (drop 4 text)) else character 5 (Some n)

-- what stands behind `\`
abbrev pub long : ℕ → List ℕ → Sign
long c cs =
    if c == 120 then character 3 (hex2 cs) else if c == 117 then unicode_if cs (hex4 cs)
    else if c == 85 then character 9 (hex8 cs) else Wrong

abbrev pub escape_if : Option ℕ → ℕ → List ℕ → Sign
escape_if None c cs = long c cs
escape_if (Some x) c cs = Means x 1

abbrev pub escape : List ℕ → Sign
escape [] = Wrong
escape (c ∷ cs) = if c == 10 then Joins else escape_if (short c) c cs
