-- A date's text, read step by step.
use Rattle.std.specs.Prelude.{ℕ, ◌+◌, ◌*◌, ◌&&◌, nat_lt, if◌then◌else◌, List, [], ◌∷◌, Option, Some, None, option_map}
use Rattle.std.specs.Char.{is_ascii_digit, digit_value}
use Rattle.std.specs.Str.{chars}
use Rattle.haya_time.specs.declared.date.number.Number.{Number}
use Rattle.haya_time.specs.declared.date.read.Opening as reader
use Rattle.haya_time.specs.DateForms.{Opening}
use Rattle.haya_time.specs.DateReading as reading

-- how many digits, and their value
abbrev pub number_view : Option Number → Option (ℕ × ℕ)
number_view n = option_map (λ n. (n.count, n.value)) n

-- a number with the text that follows it
abbrev pub number_with_rest : Number → List ℕ → reading.Number
number_with_rest n rest = record { count = n.count; value = n.value; rest = chars rest }

abbrev pub opening_view : reader.Opening → Opening
opening_view o = record {
  approximate = o.approximate;
  count = o.count;
  year = o.year;
  rest = chars o.rest.now;
}

-- a number with one more digit, of four at most
abbrev pub with_digit : Option (ℕ × ℕ) → ℕ → Option (ℕ × ℕ)
with_digit None c = None
with_digit (Some n) c =
    if is_ascii_digit c && nat_lt n.0 4 then Some (n.0 + 1, n.1 * 10 + digit_value c) else None

-- the same with each of these characters in turn
abbrev pub with_digits : Option (ℕ × ℕ) → List ℕ → Option (ℕ × ℕ)
with_digits n [] = n
with_digits n (c ∷ cs) = with_digits (with_digit n c) cs
