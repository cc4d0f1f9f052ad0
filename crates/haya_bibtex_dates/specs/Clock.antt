-- Times of the day at the end of a date, of which nothing is kept: `T12:30`, `T12:30:15.5Z`.
use Rattle.std.specs.Prelude.{ℕ, ◌==◌, ◌&&◌, ◌||◌, Bool, true, false, List, [], ◌∷◌, drop, if◌then◌else◌, Option, None, Some}
use Rattle.std.specs.Char.{is_ascii_digit}
use Rattle.std.specs.List.{prefix_len}
use Rattle.haya_bibtex_dates.specs.Digits.{behind_sign, behind_two}

abbrev pub minutes_by : Option (List ℕ) → Option (List ℕ)
minutes_by None = None
minutes_by (Some rest) = behind_two rest

abbrev pub minutes_behind : Option (List ℕ) → Option (List ℕ)
minutes_behind None = None
minutes_behind (Some rest) = minutes_by (behind_sign 58 rest)

-- what is behind hours and minutes
abbrev pub behind_minutes : List ℕ → Option (List ℕ)
behind_minutes text = minutes_behind (behind_two text)

-- what is behind the digits of a fraction, if there is one
abbrev pub digits_length : List ℕ → ℕ
digits_length text = prefix_len is_ascii_digit text

abbrev pub fraction_by : List ℕ → Option (List ℕ) → Option (List ℕ)
fraction_by text None = Some text
fraction_by text (Some rest) =
    if digits_length rest == 0 then None else Some (drop (digits_length rest) rest)

abbrev pub behind_fraction : List ℕ → Option (List ℕ)
behind_fraction text = fraction_by text (behind_sign 46 text)

abbrev pub fraction_behind : Option (List ℕ) → Option (List ℕ)
fraction_behind None = None
fraction_behind (Some rest) = behind_fraction rest

-- what is behind seconds and their fraction, if there are any
abbrev pub seconds_by : List ℕ → Option (List ℕ) → Option (List ℕ)
seconds_by text None = Some text
seconds_by text (Some rest) = fraction_behind (behind_two rest)

abbrev pub behind_seconds : List ℕ → Option (List ℕ)
behind_seconds text = seconds_by text (behind_sign 58 text)

-- two digits, with a colon in front of them or without
abbrev pub is_two : List ℕ → Bool
is_two (a ∷ b ∷ []) = is_ascii_digit a && is_ascii_digit b
is_two text = false

abbrev pub is_shift_by : List ℕ → Option (List ℕ) → Bool
is_shift_by text None = is_two text
is_shift_by text (Some rest) = is_two rest

abbrev pub is_shift_end : Option (List ℕ) → Bool
is_shift_end None = false
is_shift_end (Some rest) = is_shift_by rest (behind_sign 58 rest)

abbrev pub is_end : List ℕ → Bool
is_end [] = true
is_end (c ∷ cs) = false

-- a zone, as `Z`, `+01:00` or `-0500`, or none
abbrev pub is_zone : List ℕ → Bool
is_zone [] = true
is_zone (c ∷ cs) =
    if c == 90 then is_end cs
    else ((c == 43) || (c == 45)) && is_shift_end (behind_two cs)

abbrev pub is_zone_behind : Option (List ℕ) → Bool
is_zone_behind None = false
is_zone_behind (Some rest) = is_zone rest

abbrev pub seconds_behind : Option (List ℕ) → Option (List ℕ)
seconds_behind None = None
seconds_behind (Some rest) = behind_seconds rest

-- hours and minutes, perhaps seconds with a fraction or without, and perhaps a zone
abbrev pub is_time : List ℕ → Bool
is_time text = is_zone_behind (seconds_behind (behind_minutes text))

-- nothing, or a time
abbrev pub is_rest : List ℕ → Bool
is_rest [] = true
is_rest (c ∷ cs) = (c == 84) && is_time cs
