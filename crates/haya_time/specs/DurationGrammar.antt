-- The texts of durations and of ranges, by their parts.
use Rattle.std.specs.Prelude.{◌≡◌, ℕ, ◌^◌, ◌<◌, ◌≤◌, ◌==◌, ◌⊎◌, true, false, List, [], ◌∷◌, ◌++◌, length}
use Rattle.std.specs.Char.{is_ascii_digit}
use Rattle.std.specs.List.{list_all}
use Rattle.haya_time.specs.declared.duration.Duration.{Duration}
use Rattle.haya_time.specs.declared.duration.range.DurationRange.{DurationRange}
use Rattle.haya_text.specs.Characters.{comma, hyphen, is_numeric, begins_with}
use Rattle.haya_time.specs.DurationText.{colon, number, colons}
use Rattle.haya_time.specs.TextFront.{BeginsWith, IsBlank}
use Rattle.haya_time.specs.DurationValues.{clock, from_hours, from_minutes, milliseconds, is_too_large}

-- the text is white space, these digits, and the rest, which begins with no numeric character
pub record IsNumber (text digits rest : List ℕ) : Type 0 where
  pub stands : BeginsWith digits text rest
  pub some : 0 < length digits
  pub ascii : list_all is_ascii_digit digits ≡ true
  pub whole : begins_with is_numeric rest ≡ false

-- the text is a number, a colon, and the tail
pub record IsValue (text digits tail : List ℕ) : Type 0 where
  pub rest : List ℕ
  pub number : IsNumber text digits rest
  pub sign : BeginsWith (colon ∷ []) rest tail

-- minutes and seconds, and the rest of the text
pub record AreMinutes (text : List ℕ) (d : Duration) (rest : List ℕ) : Type 0 where
  pub one_colon : colons text ≡ 1
  pub minutes : List ℕ
  pub seconds : List ℕ
  pub tail : List ℕ
  pub first : IsValue text minutes tail
  pub last : IsNumber tail seconds rest
  pub two_or_more : 2 ≤ length minutes
  pub fits : number minutes < 2 ^ 32
  pub two : length seconds ≡ 2
  pub value : d ≡ from_minutes (number minutes) (number seconds)

-- hours, minutes and seconds
pub record AreHours (text : List ℕ) (d : Duration) (rest : List ℕ) : Type 0 where
  pub two_colons : colons text ≡ 2
  pub hours : List ℕ
  pub minutes : List ℕ
  pub seconds : List ℕ
  pub tail : List ℕ
  pub next_tail : List ℕ
  pub first : IsValue text hours tail
  pub next : IsValue tail minutes next_tail
  pub last : IsNumber next_tail seconds rest
  pub two_or_more : 2 ≤ length hours
  pub fits : number hours < 2 ^ 32
  pub two_each : (length minutes ≡ 2) × (length seconds ≡ 2)
  pub value : d ≡ from_hours (number hours) (number minutes) (number seconds)

-- days, hours, minutes and seconds
pub record AreDays (text : List ℕ) (d : Duration) (rest : List ℕ) : Type 0 where
  pub three_colons : colons text ≡ 3
  pub days : List ℕ
  pub hours : List ℕ
  pub minutes : List ℕ
  pub seconds : List ℕ
  pub tail : List ℕ
  pub next_tail : List ℕ
  pub last_tail : List ℕ
  pub first : IsValue text days tail
  pub second : IsValue tail hours next_tail
  pub third : IsValue next_tail minutes last_tail
  pub last : IsNumber last_tail seconds rest
  pub fits : number days < 2 ^ 32
  pub two_each : (length hours ≡ 2) × (length minutes ≡ 2) × (length seconds ≡ 2)
  pub value : d ≡ clock (number days) (number hours) (number minutes) (number seconds)

-- the text is values down to the seconds, and the rest: the colons say which values
abbrev pub IsClock : List ℕ → Duration → List ℕ → Type 0
IsClock text d rest = AreMinutes text d rest ⊎ AreHours text d rest ⊎ AreDays text d rest

-- the text is values, a comma, a fraction of a second, and the rest
pub record IsFraction (text : List ℕ) (d : Duration) (rest : List ℕ) : Type 0 where
  pub seconds : Duration
  pub behind_seconds : List ℕ
  pub fraction : List ℕ
  pub tail : List ℕ
  pub values : IsClock text seconds behind_seconds
  pub sign : BeginsWith (comma ∷ []) behind_seconds tail
  pub last : IsNumber tail fraction rest
  pub value : d ≡ record seconds { milliseconds = milliseconds fraction }

-- a whole text is a duration: it ends with the seconds, or with white space behind the fraction
pub record EndsInFraction (text : List ℕ) (d : Duration) : Type 0 where
  pub gap : List ℕ
  pub parts : IsFraction text d gap
  pub space : IsBlank gap

abbrev pub IsDuration : List ℕ → Duration → Type 0
IsDuration text d = IsClock text d [] ⊎ EndsInFraction text d

-- a text reads as this duration, or is one that is too large
abbrev pub ReadsAs : List ℕ → Duration → Type 0
ReadsAs text d = IsDuration text d × (is_too_large d ≡ false)

abbrev pub ReadsTooLarge : List ℕ → Type 0
ReadsTooLarge text = (d : Duration) × IsDuration text d × (is_too_large d ≡ true)

-- A range's start as far as it is looked at before its bounds: with a fraction, whatever follows;
-- without, the end or a hyphen follows.
pub record EndsBeforeHyphen (text : List ℕ) (d : Duration) (rest : List ℕ) : Type 0 where
  pub values : IsClock text d rest
  pub tail : List ℕ
  pub sign : BeginsWith (hyphen ∷ []) rest tail

abbrev pub IsStart : List ℕ → Duration → List ℕ → Type 0
IsStart text d rest =
    (IsClock text d rest × (rest ≡ [])) ⊎ EndsBeforeHyphen text d rest ⊎ IsFraction text d rest

-- the text is a start, white space, one or more hyphens, and the text of the end
pub record HasTwoTexts (text : List ℕ) (start : Duration) (end_text : List ℕ) : Type 0 where
  pub rest : List ℕ
  pub tail : List ℕ
  pub hyphens : List ℕ
  pub front : IsStart text start rest
  pub sign : BeginsWith (hyphen ∷ []) rest tail
  pub cut : tail ≡ hyphens ++ end_text
  pub more : list_all (λ c. c == hyphen) hyphens ≡ true
  pub all_hyphens : begins_with (λ c. c == hyphen) end_text ≡ false

-- the text reads as one duration, which is start and end
pub record IsOneDuration (text : List ℕ) (r : DurationRange) : Type 0 where
  pub start : ReadsAs text r.start
  pub same : r.end ≡ r.start

-- the text reads as two durations
pub record AreTwoDurations (text : List ℕ) (r : DurationRange) : Type 0 where
  pub end_text : List ℕ
  pub texts : HasTwoTexts text r.start end_text
  pub bounds : is_too_large r.start ≡ false
  pub end : ReadsAs end_text r.end

abbrev pub ReadsAsRange : List ℕ → DurationRange → Type 0
ReadsAsRange text r = IsOneDuration text r ⊎ AreTwoDurations text r

-- the start is too large, whatever follows it, or the end is
pub record HasLargeEnd (text : List ℕ) : Type 0 where
  pub start : Duration
  pub end_text : List ℕ
  pub texts : HasTwoTexts text start end_text
  pub bounds : is_too_large start ≡ false
  pub large : ReadsTooLarge end_text

abbrev pub HasLargeStart : List ℕ → Type 0
HasLargeStart text =
    (d : Duration) × (rest : List ℕ) × IsStart text d rest × (is_too_large d ≡ true)

abbrev pub RangeTooLarge : List ℕ → Type 0
RangeTooLarge text = HasLargeStart text ⊎ HasLargeEnd text
