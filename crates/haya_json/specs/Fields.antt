-- The fields of an entry in JSON: each name, what its value reads as, and what that sets.
use Rattle.std.specs.Prelude.{ℕ, List, [], ◌∷◌, Option, None, Some, is_some, Result, Ok, Err, codes, if◌then◌else◌}
use Rattle.std.specs.Map.{lookup}
use Rattle.std.specs.Str.{bytes_eq}
use Rattle.json.specs.Json.{Json}
use Rattle.haya_entry.specs.Tree.{Tree, Fields, fields, with_fields}
use Rattle.haya_json.specs.LostParts.{date_part, format_part, many_lost, parts_lost, person_part, publisher_part, range_part, roles_part, url_part}
use Rattle.haya_json.specs.Notes.{LostView, lost_here, lost_of, named, unread}
use Rattle.haya_json.specs.Refusal.{Refusal}
use Rattle.haya_json.specs.Parts.{plain_of}
use Rattle.haya_json.specs.Values.{format_of, persons_of, affiliated_of, date_of, publisher_of, url_of, number_of, number_or_text_of, pages_or_text_of, range_or_text_of, duration_or_text_of, serials_of}
use Rattle.haya_json.specs.declared.fault.Why.TheVariants.{Twice}

-- an entry, and what is lost of the JSON that it is read of
pub record EntryView : Type 0 where
  pub entry : Tree
  pub lost : List LostView

-- the entry, and nothing is lost
abbrev pub entry_alone : Tree → EntryView
entry_alone t = record { entry = t; lost = [] }

-- the entry, and this is lost
abbrev pub entry_but : LostView → Tree → EntryView
entry_but lost t = record { entry = t; lost = lost ∷ [] }

-- ---- setters

-- what makes of a value and an entry the entry after it is set, and what is lost of the value
abbrev pub Setter : Type 0
Setter = Json → Tree → EntryView

-- a field after a value, and what is lost of the value
pub record FieldView (V : Type 0) : Type 0 where
  pub after : Option V
  pub lost : List LostView

-- The field has what the value reads as, of which this is lost. A value that isn't read is lost, and
-- the field is as before.
abbrev pub read_into : {V : Type 0} → Result V Refusal → List LostView → Option V → FieldView V
read_into (Ok v) lost before = record { after = Some v; lost = lost }
read_into (Err r) lost before = record { after = before; lost = lost_of r ∷ [] }

-- the setter of a field, by what its values read as and what is lost of those that are read
abbrev pub field_setter : {V : Type 0} → (Json → Result V Refusal) → (Json → List LostView)
    → (Fields → Option V) → (Option V → Fields → Fields) → Setter
field_setter read lost get put j t =
    let field = read_into (read j) (lost j) (get (fields t)) in
    record { entry = with_fields (put field.after) t; lost = field.lost }

-- of a value that has no parts nothing is lost
abbrev pub none_lost : Json → List LostView
none_lost j = []

-- the setter of the serial numbers, which have two names and are set once
abbrev pub serial_setter : Setter
serial_setter j t =
    if is_some (fields t).serial_number then entry_but (lost_here (unread Twice)) t
    else
    field_setter serials_of none_lost (λ f. f.serial_number) (λ v f. record f { serial_number = v })
    j t

-- ---- the table

-- each name of a number, a time or a serial number, with the setter of its field
abbrev pub number_table : List (List ℕ × Setter)
number_table = (
  codes "issue",
  field_setter number_or_text_of none_lost (λ f. f.issue) (λ v f. record f { issue = v }),
)
    ∷ (
      codes "chapter",
      field_setter number_or_text_of none_lost (λ f. f.chapter) (λ v f. record f { chapter = v }),
    )
    ∷ (
      codes "volume",
      field_setter number_or_text_of none_lost (λ f. f.volume) (λ v f. record f { volume = v }),
    )
    ∷ (
      codes "edition",
      field_setter number_or_text_of none_lost (λ f. f.edition) (λ v f. record f { edition = v }),
    )
    ∷ (
      codes "volume-total",
      field_setter number_of none_lost (λ f. f.volume_total) (λ v f. record f { volume_total = v }),
    )
    ∷ (
      codes "page-total",
      field_setter number_of none_lost (λ f. f.page_total) (λ v f. record f { page_total = v }),
    )
    ∷ (
      codes "page-range",
      field_setter pages_or_text_of none_lost (λ f. f.page_range)
          (λ v f. record f { page_range = v }),
    )
    ∷ (
      codes "time-range",
      field_setter range_or_text_of (parts_lost range_part (codes "time-range")) (λ f. f.time_range)
          (λ v f. record f { time_range = v }),
    )
    ∷ (
      codes "runtime",
      field_setter duration_or_text_of none_lost (λ f. f.runtime) (λ v f. record f { runtime = v }),
    )
    ∷ (codes "serial-number", serial_setter)
    ∷ (codes "serial", serial_setter)
    ∷ []

-- the same of each name of a text, too
abbrev pub text_table : List (List ℕ × Setter)
text_table = (
  codes "title",
  field_setter format_of (parts_lost format_part (codes "title")) (λ f. f.title)
      (λ v f. record f { title = v }),
)
    ∷ (
      codes "location",
      field_setter format_of (parts_lost format_part (codes "location")) (λ f. f.location)
          (λ v f. record f { location = v }),
    )
    ∷ (
      codes "organization",
      field_setter format_of (parts_lost format_part (codes "organization")) (λ f. f.organization)
          (λ v f. record f { organization = v }),
    )
    ∷ (
      codes "archive",
      field_setter format_of (parts_lost format_part (codes "archive")) (λ f. f.archive)
          (λ v f. record f { archive = v }),
    )
    ∷ (
      codes "archive-location",
      field_setter format_of (parts_lost format_part (codes "archive-location")) (λ f. f.archive_location)
          (λ v f. record f { archive_location = v }),
    )
    ∷ (
      codes "call-number",
      field_setter format_of (parts_lost format_part (codes "call-number")) (λ f. f.call_number)
          (λ v f. record f { call_number = v }),
    )
    ∷ (
      codes "note",
      field_setter format_of (parts_lost format_part (codes "note")) (λ f. f.note)
          (λ v f. record f { note = v }),
    )
    ∷ (
      codes "abstract",
      field_setter format_of (parts_lost format_part (codes "abstract")) (λ f. f.abstract_)
          (λ v f. record f { abstract_ = v }),
    )
    ∷ (
      codes "genre",
      field_setter format_of (parts_lost format_part (codes "genre")) (λ f. f.genre)
          (λ v f. record f { genre = v }),
    )
    ∷ number_table

-- the same of each name: 26 fields, the serial numbers by two names
abbrev pub field_table : List (List ℕ × Setter)
field_table = (
  codes "author",
  field_setter persons_of (many_lost person_part (codes "author")) (λ f. f.authors)
      (λ v f. record f { authors = v }),
)
    ∷ (
      codes "editor",
      field_setter persons_of (many_lost person_part (codes "editor")) (λ f. f.editors)
          (λ v f. record f { editors = v }),
    )
    ∷ (
      codes "affiliated",
      field_setter affiliated_of (many_lost roles_part (codes "affiliated")) (λ f. f.affiliated)
          (λ v f. record f { affiliated = v }),
    )
    ∷ (
      codes "date",
      field_setter date_of (parts_lost date_part (codes "date")) (λ f. f.date)
          (λ v f. record f { date = v }),
    )
    ∷ (
      codes "publisher",
      field_setter publisher_of (parts_lost publisher_part (codes "publisher")) (λ f. f.publisher)
          (λ v f. record f { publisher = v }),
    )
    ∷ (
      codes "url",
      field_setter url_of (parts_lost url_part (codes "url")) (λ f. f.url)
          (λ v f. record f { url = v }),
    )
    ∷ (
      codes "language",
      field_setter plain_of none_lost (λ f. f.language) (λ v f. record f { language = v }),
    )
    ∷ text_table

-- a value under a name that no field has is lost under that name
abbrev pub set_by : Option Setter → List ℕ → Setter
set_by None name j t = entry_but (lost_here (named name)) t
set_by (Some set) name j t = set j t

-- the entry after the value is set under this name, and what is lost of it
abbrev pub with_field : List ℕ → Setter
with_field name = set_by (lookup (bytes_eq name) field_table) name

abbrev pub with_text_field : List ℕ → Setter
with_text_field name = set_by (lookup (bytes_eq name) text_table) name

abbrev pub with_number_field : List ℕ → Setter
with_number_field name = set_by (lookup (bytes_eq name) number_table) name
