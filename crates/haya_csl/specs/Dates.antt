-- Dates, and what is lost of them.
use Rattle.std.specs.Prelude.{ℕ, Bool, true, false, ◌||◌, not, List, [], ◌∷◌, ◌++◌, Option, None, Some, codes, fold, is_some, option_and_then, option_map, unwrap_or, if◌then◌else◌}
use Rattle.std.specs.Map.{lookup}
use Rattle.std.specs.Str.{bytes_eq}
use Rattle.json.specs.Json as json
use Rattle.json.specs.Json.{Json, Members}
use Rattle.json.specs.Find.{at, is_null}
use Rattle.haya_time.specs.declared.date.Date.{Date}
use Rattle.haya_time.specs.declared.date.Season.{Season}
use Rattle.haya_time.specs.declared.date.Season.TheVariants.{Spring, Summer, Autumn, Winter}
use Rattle.haya_json.specs.Notes.{LossView, LostView, all_behind, lost_behind, lost_here, named, unread}
use Rattle.haya_json.specs.Parts.{member_of, text_in}
use Rattle.haya_json.specs.Refusal.{to_item, to_member}
use Rattle.haya_json.specs.Whole.{whole_read}
use Rattle.haya_json.specs.declared.fault.Why.TheVariants.{NotDate, NotList, NotObject, NotText, NotTruth}
use Rattle.haya_csl.specs.DateNumbers.{all_seasons, date_at, edtf_seasons, first_of, month_seasons, part_by, part_season, season_in, unless_zero, with_season}
use Rattle.haya_csl.specs.DateTexts.{date_in, marked, named_in, plain, range_start, season_names}
use Rattle.haya_csl.specs.Said.{SaidView, said_behind, said_view}
use Rattle.haya_csl.specs.declared.dates.calendar.Part.{Part}
use Rattle.haya_csl.specs.declared.dates.calendar.Part.TheVariants.{Missing, Unread, Number}
use Rattle.haya_csl.specs.declared.said.Said.{Said}

-- ---- a date so far

-- this date or none, and nothing is lost
abbrev pub keeps : Option Date → SaidView Date
keeps date = record { value = date; lost = [] }

-- this date or none, and the value itself is lost
abbrev pub keeps_but : LossView → Option Date → SaidView Date
keeps_but loss date = record { value = date; lost = lost_here loss ∷ [] }

-- a date that has to be one
abbrev pub dated : Option Date → SaidView Date
dated None = keeps_but (unread NotDate) None
dated (Some d) = keeps (Some d)

-- a date that begins a range, of which the end is lost
abbrev pub range_end : List ℕ → List ℕ
range_end name = name ++ codes ", the end of a range"

abbrev pub ranged : List ℕ → SaidView Date → SaidView Date
ranged name said = record {
  value = said.value;
  lost = said.lost ++ lost_here (named (range_end name)) ∷ [];
}

-- ---- a date by its parts

-- a number or digits; null and an empty text are as if the part were missing
abbrev pub part_in : Option (List ℕ) → Part
part_in None = Unread
part_in (Some []) = Missing
part_in (Some text) = part_by (whole_read text)

abbrev pub part_of : Json → Part
part_of j = if is_null j then Missing else part_in (text_in j)

abbrev pub part_or_missing : Option Json → Part
part_or_missing None = Missing
part_or_missing (Some j) = part_of j

-- the part at this place of a list
abbrev pub part_at : ℕ → Json → Part
part_at n j = part_or_missing (at n j)

-- a year, a month or a season, and a day; a day without its month is lost
abbrev pub date_by : Part → Part → Part → SaidView Date
date_by Missing Missing Missing = keeps None
date_by (Number year) Missing Missing = dated (date_at year Missing Missing None)
date_by (Number year) Missing day = keeps_but (unread NotDate) (date_at year Missing Missing None)
date_by (Number year) month day = dated (date_at year month day (part_season month_seasons month))
date_by _ _ _ = keeps_but (unread NotDate) None

-- three parts at most
abbrev pub parts_read : Json → SaidView Date
parts_read j =
    if is_some (at 3 j) then keeps_but (unread NotDate) None
    else date_by (part_at 0 j) (unless_zero (part_at 1 j)) (unless_zero (part_at 2 j))

abbrev pub parts_said : Json → SaidView Date
parts_said json.null = keeps None
parts_said (json.array parts) = parts_read (json.array parts)
parts_said _ = keeps_but (unread NotList) None

-- the first date of a list; a second is the end of a range
abbrev pub first_said : List ℕ → Bool → Option Json → SaidView Date
first_said name is_range None = keeps None
first_said name is_range (Some j) =
    if is_range then ranged name (said_behind (to_item 0) (parts_said j))
    else said_behind (to_item 0) (parts_said j)

abbrev pub dates_said : List ℕ → Option Date → Json → SaidView Date
dates_said name found (json.array dates) =
    first_said name (is_some (at 1 (json.array dates))) (at 0 (json.array dates))
dates_said name found _ = keeps_but (unread NotList) found

-- ---- a date in a text

abbrev pub start_said : List ℕ → Option Date → SaidView Date
start_said name None = keeps_but (unread NotDate) None
start_said name (Some d) = ranged name (keeps (Some d))

abbrev pub range_said : List ℕ → List ℕ → Option (List ℕ) → SaidView Date
range_said name text None = dated (date_in text)
range_said name text (Some start) = start_said name (date_in start)

-- the date of a text, or of the start of a range; an empty text says none
unfoldable pub text_said : List ℕ → List ℕ → SaidView Date
text_said name [] = keeps None
text_said name text = range_said name (plain text) (range_start (plain text))

abbrev pub first_text : List ℕ → Option (List ℕ) → SaidView Date
first_text name None = keeps_but (unread NotText) None
first_text name (Some text) = text_said name text

-- a text that isn't needed, as there is a date
abbrev pub spare_text : List ℕ → Date → Option (List ℕ) → SaidView Date
spare_text spare d (Some []) = keeps (Some d)
spare_text spare d text = keeps_but (named spare) (Some d)

abbrev pub next_text : List ℕ → List ℕ → Option Date → Json → SaidView Date
next_text spare name None j = first_text name (text_in j)
next_text spare name (Some d) j = spare_text spare d (text_in j)

-- ---- the season

-- by its number, or by its name in English
unfoldable pub season_read : List ℕ → Option Season
season_read text =
    first_of (option_and_then (season_in all_seasons) (whole_read text))
    (part_season edtf_seasons (named_in season_names text))

abbrev pub is_season : Season → Season → Bool
is_season Spring Spring = true
is_season Summer Summer = true
is_season Autumn Autumn = true
is_season Winter Winter = true
is_season _ _ = false

-- a date has one season
abbrev pub with_first_season : Season → Date → Option Season → SaidView Date
with_first_season s d None = keeps (Some (with_season s d))
with_first_season s d (Some first) =
    if is_season s first then keeps (Some d) else keeps_but (named (codes "season")) (Some d)

unfoldable pub in_season_said : Option Date → Option Season → SaidView Date
in_season_said found None = keeps_but (unread NotDate) found
in_season_said None (Some s) = keeps_but (named (codes "season")) None
in_season_said (Some d) (Some s) = with_first_season s d d.season

unfoldable pub season_text : Option Date → List ℕ → SaidView Date
season_text found [] = keeps found
season_text found text = in_season_said found (season_read (plain text))

abbrev pub season_by : Option Date → Option (List ℕ) → SaidView Date
season_by found None = keeps_but (unread NotDate) found
season_by found (Some text) = season_text found text

abbrev pub season_said : List ℕ → Option Date → Json → SaidView Date
season_said name found j = season_by found (text_in j)

-- ---- whether the date is only about right

abbrev pub is_true : List ℕ → Bool
is_true text =
    not (bytes_eq text (codes "") || bytes_eq text (codes "false") || bytes_eq text (codes "0"))

abbrev pub truth_in : Json → Option Bool
truth_in (json.boolean b) = Some b
truth_in j = option_map is_true (text_in j)

abbrev pub circa_by : Option Date → Option Bool → SaidView Date
circa_by found None = keeps_but (unread NotTruth) found
circa_by found (Some false) = keeps found
circa_by None (Some true) = keeps_but (named (codes "circa")) None
circa_by (Some d) (Some true) = keeps (Some (marked true d))

abbrev pub circa_said : List ℕ → Option Date → Json → SaidView Date
circa_said name found j = circa_by found (truth_in j)

-- ---- the members of a date

-- The date after a member: of the one so far, under the name of the whole date.
abbrev pub DateReader : Type 0
DateReader = List ℕ → Option Date → Json → SaidView Date

abbrev pub date_table : List (List ℕ × DateReader)
date_table =
    (codes "date-parts", dates_said)
    ∷ (codes "raw", next_text (codes "raw date"))
    ∷ (codes "edtf", next_text (codes "edtf date"))
    ∷ (codes "literal", next_text (codes "literal date"))
    ∷ (codes "season", season_said)
    ∷ (codes "circa", circa_said)
    ∷ []

abbrev pub no_reader : DateReader
no_reader name found j = keeps found

abbrev pub reader_of : List ℕ → DateReader
reader_of key = unwrap_or (lookup (bytes_eq key) date_table) no_reader

-- what a member says behind what is said so far
abbrev pub followed_by : List ℕ → SaidView Date → SaidView Date → SaidView Date
followed_by key so_far said = record {
  value = said.value;
  lost = so_far.lost ++ all_behind (to_member key) said.lost;
}

abbrev pub after_value : List ℕ → List ℕ → SaidView Date → Option Json → SaidView Date
after_value name key so_far None = so_far
after_value name key so_far (Some j) = followed_by key so_far (reader_of key name so_far.value j)

unfoldable pub after_member : List ℕ → Json → SaidView Date → List ℕ → SaidView Date
after_member name j so_far key = after_value name key so_far (member_of key j)

-- the members of the table, in its order
abbrev pub members_said : List ℕ → Json → SaidView Date
members_said name j = fold (λ so_far row. after_member name j so_far row.0) (keeps None) date_table

-- ---- other members

abbrev pub is_known : List ℕ → Bool
is_known key = is_some (lookup (bytes_eq key) date_table)

abbrev pub unknown_name : List ℕ → List ℕ → List ℕ
unknown_name name key = name ++ (codes ", member " ++ key)

abbrev pub unknown_lost : List ℕ → List ℕ → Json → List LostView
unknown_lost name key j =
    if is_null j || is_known key then []
    else lost_behind (to_member key) (lost_here (named (unknown_name name key))) ∷ []

abbrev pub all_unknown : List ℕ → Members → List LostView
all_unknown name json.no_members = []
all_unknown name (json.member key j ms) = unknown_lost name key j ++ all_unknown name ms

-- ---- a date

abbrev pub object_said : List ℕ → Members → SaidView Date
object_said name ms =
    let said = members_said name (json.object ms) in
    record { value = said.value; lost = said.lost ++ all_unknown name ms }

-- the date that a value says, under the member of this name
unfoldable pub date_said : List ℕ → Json → SaidView Date
date_said name (json.object ms) = object_said name ms
date_said name (json.string text) = text_said name text
date_said name (json.number text) = text_said name text
date_said name _ = keeps_but (unread NotObject) None

-- ---- of the code's values

abbrev pub date_view : Said Date → SaidView Date
date_view said = said_view (λ d. d) said
