-- Durations and ranges as they are printed.
use Rattle.std.specs.Prelude.{ℕ, nat_lt, Bool, ◌||◌, ◌&&◌, ◌==◌, List, [], ◌∷◌, ◌++◌, if◌then◌else◌}
use Rattle.std.specs.Fmt.{decimal}
use Rattle.haya_time.specs.declared.duration.Duration.{Duration}
use Rattle.haya_time.specs.declared.duration.range.DurationRange.{DurationRange}
use Rattle.haya_text.specs.Characters.{comma, hyphen}
use Rattle.haya_time.specs.DurationText.{colon}
use Rattle.haya_time.specs.Padded.{padded_decimal}

-- days with their colon, where there are some
abbrev pub days_text : ℕ → List ℕ
days_text days = if nat_lt 0 days then decimal days ++ colon ∷ [] else []

-- hours with their colon, where there are some, or days before them
abbrev pub hours_text : Bool → ℕ → List ℕ
hours_text has_days hours =
    if has_days || nat_lt 0 hours then padded_decimal 2 hours ++ colon ∷ [] else []

-- milliseconds behind their comma, where there are some
abbrev pub fraction_text : ℕ → List ℕ
fraction_text milliseconds =
    if nat_lt 0 milliseconds then comma ∷ padded_decimal 3 milliseconds else []

-- days and hours with their colons, minutes, a colon, seconds, milliseconds with their comma
abbrev pub duration_text : Duration → List ℕ
duration_text d = days_text d.days ++ (hours_text (nat_lt 0 d.days) d.hours
    ++ (padded_decimal 2 d.minutes
    ++ colon ∷ (padded_decimal 2 d.seconds ++ fraction_text d.milliseconds)))

abbrev pub same_duration : Duration → Duration → Bool
same_duration d e =
    d.days == e.days && d.hours == e.hours && d.minutes == e.minutes && d.seconds == e.seconds
    && d.milliseconds == e.milliseconds

-- the end where it differs from the start
abbrev pub range_text : DurationRange → List ℕ
range_text r = if same_duration r.start r.end then duration_text r.start
    else duration_text r.start ++ hyphen ∷ duration_text r.end
