-- The table of dates and addresses.
use Rattle.std.specs.Prelude.{ℕ, ◌++◌, ◌&&◌, not, Bool, List, [], ◌∷◌, Option, None, Some, is_some, option_and_then, option_map, unwrap_or, codes, if◌then◌else◌}
use Rattle.std.specs.Option.{option_or}
use Rattle.std.specs.Str.{chars}
use Rattle.haya_time.specs.declared.date.Date.{Date}
use Rattle.haya_bibtex_dates.specs.Entries.{DateTexts, EntryDate, date_of}
use Rattle.haya_bibtex_dates.specs.Forms.{date_in}
use Rattle.haya_bibtex_fields.specs.Addresses.{standing_in}
use Rattle.haya_bibtex_fields.specs.FieldTexts.{plain_in, unknown_of}
use Rattle.haya_bibtex_fields.specs.Serials.{EprintView, eprint_address}
use Rattle.haya_bibtex_inherited.specs.Entries.{FieldBytes, has_field, text_of}
use Rattle.haya_bibtex_values.specs.Standing.{as_it_stands}
use Rattle.haya_bibtex_entries.specs.Drafts.{RowView}
use Rattle.haya_bibtex_entries.specs.Publishers.{published_at}
use Rattle.haya_bibtex_entries.specs.Rows.{commands, row}
use Rattle.haya_bibtex_entries.specs.Serials.{eprint_of}
use Rattle.haya_bibtex_entries.specs.Values.{date_value, url_value}
use Rattle.haya_bibtex_entries.specs.declared.draft.Level.{Level}
use Rattle.haya_bibtex_entries.specs.declared.draft.Level.TheVariants as level
use Rattle.haya_bibtex_entries.specs.declared.kinds.Kind.{Kind}

-- ---- the date of an entry

abbrev pub standing_chars : List ℕ → List ℕ
standing_chars text = chars (as_it_stands text)

abbrev pub plain_text : List ℕ → List ℕ
plain_text text = unwrap_or (plain_in text) []

-- the characters of two texts, where both are there
abbrev pub both_chars : Option (List ℕ) → Option (List ℕ) → Option (List ℕ × List ℕ)
both_chars (Some a) (Some b) = Some (chars a, chars b)
both_chars a b = None

-- the texts of a date and of a year as they stand, and of a year, a month and a day as they are read
abbrev pub texts_by : Option (List ℕ) → Option (List ℕ) → Option (List ℕ) → Option (List ℕ)
    → Option (List ℕ) → DateTexts
texts_by date year plain month day = record {
  date = option_map chars date;
  year = both_chars year plain;
  month = option_map chars month;
  day = day;
}

abbrev pub date_texts : List FieldBytes → DateTexts
date_texts fs =
    texts_by (option_map as_it_stands (text_of fs (codes "date")))
    (option_map as_it_stands (text_of fs (codes "year")))
    (option_map plain_text (text_of fs (codes "year")))
    (option_map plain_text (text_of fs (codes "month")))
    (option_map plain_text (text_of fs (codes "day")))

-- a name, where its field isn't read
abbrev pub if_lost : Bool → List ℕ → List (List ℕ)
if_lost lost name = if lost then name ∷ [] else []

abbrev pub lost_dates : EntryDate → List (List ℕ)
lost_dates e =
    if_lost e.lost_date (codes "date")
    ++ if_lost e.lost_year (codes "year")
    ++ if_lost e.lost_month (codes "month")
    ++ if_lost e.lost_day (codes "day")

-- `date` is read, so that `year`, `month` and `day` are left aside
abbrev pub is_by_date : List FieldBytes → EntryDate → Bool
is_by_date fs e = is_some (text_of fs (codes "date")) && not e.lost_date

abbrev pub unknown_dates : List FieldBytes → List (List ℕ)
unknown_dates fs =
    unknown_of (text_of fs (codes "year"))
    ++ unknown_of (text_of fs (codes "month"))
    ++ unknown_of (text_of fs (codes "day"))

abbrev pub date_commands : List FieldBytes → EntryDate → List (List ℕ)
date_commands fs e =
    if is_by_date fs e then []
    else commands (unknown_dates fs)

abbrev pub entry_date_row : List FieldBytes → EntryDate → RowView
entry_date_row fs e =
    row level.Own (option_map (λ d. date_value d) e.date) (date_commands fs e ++ lost_dates e)

abbrev pub own_date_row : List FieldBytes → RowView
own_date_row fs = entry_date_row fs (date_of (date_texts fs))

-- ---- other dates

abbrev pub date_said : List ℕ → Option Date
date_said text = date_in (standing_chars text)

-- a date, or a field that is passed over
abbrev pub date_by : Level → List ℕ → Option Date → RowView
date_by l name date =
    row l (option_map (λ d. date_value d) date) (if_lost (not (is_some date)) name)

abbrev pub date_row : Level → List ℕ → List ℕ → RowView
date_row l name text = date_by l name (date_said text)

abbrev pub conference_date_row : Bool → List FieldBytes → Option RowView
conference_date_row is_given fs =
    if is_given then
    option_map (date_row level.Conference (codes "eventdate")) (text_of fs (codes "eventdate"))
    else None

-- `origyear` where there is no `origdate`
abbrev pub original_date_by : Option (List ℕ) → Option (List ℕ) → Option RowView
original_date_by (Some text) year = Some (date_row level.Original (codes "origdate") text)
original_date_by None year = option_map (date_row level.Original (codes "origyear")) year

abbrev pub original_date_row : List FieldBytes → Option RowView
original_date_row fs =
    original_date_by (text_of fs (codes "origdate")) (text_of fs (codes "origyear"))

-- ---- the address, with the date of the visit

abbrev pub eprint_address_in : Option EprintView → Option (List ℕ)
eprint_address_in (Some (eprint_address n)) = Some n
eprint_address_in e = None

abbrev pub url_text : List FieldBytes → Option (List ℕ)
url_text fs = text_of fs (codes "url")

-- the address of `url`, or without that field of how it was published, or of the archive
abbrev pub address_by : Option (List ℕ) → List FieldBytes → Option (List ℕ)
address_by (Some text) fs = standing_in text
address_by None fs = option_or (published_at fs) (eprint_address_in (eprint_of fs))

abbrev pub address_of : List FieldBytes → Option (List ℕ)
address_of fs = address_by (url_text fs) fs

abbrev pub visit_of : List FieldBytes → Option Date
visit_of fs = option_and_then date_said (text_of fs (codes "urldate"))

-- the date of a visit that isn't read is passed over
abbrev pub is_visit_lost : List FieldBytes → Bool
is_visit_lost fs = has_field fs (codes "urldate") && not (is_some (visit_of fs))

abbrev pub address_row_by : Option (List ℕ) → List FieldBytes → Option RowView
address_row_by None fs = None
address_row_by (Some address) fs =
    Some (row level.Own (Some (url_value (record { value = address; visit_date = visit_of fs })))
    (if_lost (is_visit_lost fs) (codes "urldate")))

abbrev pub address_row : List FieldBytes → Option RowView
address_row fs = address_row_by (address_of fs) fs

abbrev pub date_rows : Kind → List FieldBytes → List (Option RowView)
date_rows k fs =
    Some (own_date_row fs)
    ∷ conference_date_row k.is_given fs
    ∷ original_date_row fs
    ∷ address_row fs
    ∷ []
