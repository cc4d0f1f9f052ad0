-- What a text reads as, computed by longest runs.
use Rattle.std.specs.Prelude.{ℕ, ◌^◌, ◌==◌, nat_lt, nat_le, Bool, true, false, ◌&&◌, ◌||◌, List, length, if◌then◌else◌, Option, Some, None, is_some, option_map, option_and_then, Result, Ok, Err}
use Rattle.std.specs.Char.{is_ascii_digit, is_whitespace}
use Rattle.std.specs.List.{list_all}
use Rattle.std.specs.Str.{skip_leading_whitespace}
use Rattle.haya_time.specs.declared.duration.Duration.{Duration}
use Rattle.haya_time.specs.declared.duration.range.DurationRange.{DurationRange}
use Rattle.haya_time.specs.declared.duration.reading.DurationError.{DurationError}
use Rattle.haya_time.specs.declared.duration.reading.DurationError.TheVariants.{Malformed, TooLarge}
use Rattle.haya_time.specs.DurationValues.{clock, from_hours, from_minutes, milliseconds, is_too_large}
use Rattle.haya_text.specs.Characters.{comma, hyphen, is_numeric, begins_with, run, behind_run}
use Rattle.haya_time.specs.DurationText.{colon, number, colons}
use Rattle.haya_time.specs.TextFront.{behind, is_empty}

-- what is read at the front of a text, and what follows it
abbrev pub ReadAt : Type 0 → Type 0
ReadAt A = Option (A × List ℕ)

-- the digits of the number at the front, behind white space, if no other
-- numeric character follows them
abbrev pub digits_at : List ℕ → ReadAt (List ℕ)
digits_at text = let front = skip_leading_whitespace text in
    if begins_with is_numeric (behind_run is_ascii_digit front) then None
    else Some (run is_ascii_digit front, behind_run is_ascii_digit front)

-- the same value, and what stands behind the colon that follows it
abbrev pub with_colon : {A : Type 0} → A × List ℕ → ReadAt A
with_colon p = option_map (λ rest. (p.0, rest)) (behind colon p.1)

-- the number of digits that are at least so many and fit 32 bits
abbrev pub long_number : ℕ → List ℕ × List ℕ → ReadAt ℕ
long_number least p =
    if nat_le least (length p.0) && nat_lt (number p.0) (2 ^ 32) then Some (number p.0, p.1)
    else None

-- the number of exactly two digits
abbrev pub two_number : List ℕ × List ℕ → ReadAt ℕ
two_number p = if length p.0 == 2 then Some (number p.0, p.1) else None

-- the first value, which has at least so many digits, and what stands behind its colon
abbrev pub long_at : ℕ → List ℕ → ReadAt ℕ
long_at least text =
    option_and_then with_colon (option_and_then (long_number least) (digits_at text))

-- a number of two digits
abbrev pub two_at : List ℕ → ReadAt ℕ
two_at text = option_and_then two_number (digits_at text)

-- a value of two digits, and what stands behind its colon
abbrev pub two_colon_at : List ℕ → ReadAt ℕ
two_colon_at text = option_and_then with_colon (two_at text)

-- minutes and seconds
abbrev pub minutes_at : List ℕ → ReadAt Duration
minutes_at text = option_and_then (λ m.
    option_map (λ s. (from_minutes m.0 s.0, s.1)) (two_at m.1))
    (long_at 2 text)

-- minutes and seconds behind the hours
abbrev pub hours_at : List ℕ → ReadAt Duration
hours_at text = option_and_then (λ h. option_and_then (λ m.
    option_map (λ s. (from_hours h.0 m.0 s.0, s.1)) (two_at m.1))
    (two_colon_at h.1)) (long_at 2 text)

-- hours, minutes and seconds behind the days
abbrev pub days_at : List ℕ → ReadAt Duration
days_at text = option_and_then (λ d. option_and_then (λ h. option_and_then (λ m.
    option_map (λ s. (clock d.0 h.0 m.0 s.0, s.1)) (two_at m.1))
    (two_colon_at h.1)) (two_colon_at d.1)) (long_at 1 text)

-- the values down to the seconds: how many they are say the colons
abbrev pub clock_at : List ℕ → ReadAt Duration
clock_at text =
    if colons text == 1 then minutes_at text
    else if colons text == 2 then hours_at text
    else if colons text == 3 then days_at text
    else None

-- the values of a duration, whether it has a fraction, and what follows it
pub record Front : Type 0 where
  pub duration : Duration
  pub has_fraction : Bool
  pub rest : List ℕ

-- with the fraction that is read behind its comma
abbrev pub fraction_front : Duration → List ℕ × List ℕ → Option Front
fraction_front d p = if is_empty p.0 then None
    else Some (record {
      duration = record d { milliseconds = milliseconds p.0 };
      has_fraction = true;
      rest = p.1;
    })

-- with the fraction, where a comma follows the seconds
abbrev pub with_fraction : Duration → List ℕ → Option (List ℕ) → Option Front
with_fraction d rest None = Some (record { duration = d; has_fraction = false; rest = rest })
with_fraction d rest (Some tail) = option_and_then (fraction_front d) (digits_at tail)

-- the duration at the front
abbrev pub front_at : List ℕ → Option Front
front_at text = option_and_then (λ p. with_fraction p.0 p.1 (behind comma p.1)) (clock_at text)

-- a duration ends with its seconds, or with white space behind the fraction
abbrev pub is_ended : Front → Bool
is_ended f = if f.has_fraction then list_all is_whitespace f.rest else is_empty f.rest

-- the duration, if none of its values is
abbrev pub check_bounds : Duration → Result Duration DurationError
check_bounds d = if is_too_large d then Err TooLarge else Ok d

abbrev pub whole_duration : Option Front → Result Duration DurationError
whole_duration None = Err Malformed
whole_duration (Some f) = if is_ended f then check_bounds f.duration else Err Malformed

-- the duration that a text reads as, or its fault
abbrev pub duration_read : List ℕ → Result Duration DurationError
duration_read text = whole_duration (front_at text)

-- the seconds of a range's start are followed by the end or a hyphen; what follows a
-- fraction is looked at later
abbrev pub is_start : Front → Bool
is_start f = f.has_fraction || is_empty f.rest || is_some (behind hyphen f.rest)

-- the range from a start, with the end read behind the hyphens
abbrev pub range_to : Duration → Result Duration DurationError → Result DurationRange DurationError
range_to start (Ok e) = Ok (record { start = start; end = e })
range_to start (Err fault) = Err fault

-- the range from a start that something follows
abbrev pub longer_range : Duration → Option (List ℕ) → Result DurationRange DurationError
longer_range start None = Err Malformed
longer_range start (Some tail) = range_to start (duration_read (behind_run (λ c. c == hyphen) tail))

-- the range from a start with this rest
abbrev pub range_from : Result Duration DurationError → List ℕ → Result DurationRange DurationError
range_from (Err fault) rest = Err fault
range_from (Ok start) rest =
    if list_all is_whitespace rest then Ok (record { start = start; end = start })
    else longer_range start (behind hyphen rest)

abbrev pub whole_range : Option Front → Result DurationRange DurationError
whole_range None = Err Malformed
whole_range (Some f) =
    if is_start f then range_from (check_bounds f.duration) f.rest else Err Malformed

-- the range that a text reads as, or its fault
abbrev pub range_read : List ℕ → Result DurationRange DurationError
range_read text = whole_range (front_at text)
