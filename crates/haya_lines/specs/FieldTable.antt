-- The fields of a line: what the values of each read as, and what they change.
use Rattle.std.specs.Prelude.{ℕ, ◌+◌, ◌==◌, List, [], ◌∷◌, ◌++◌, take, drop, position, codes}
use Rattle.std.specs.Prelude.{Option, Some, option_map, ok_or, unwrap_or, Result, Ok, Err}
use Rattle.std.specs.Result.{result_ok}
use Rattle.std.specs.Str.{chars}
use Rattle.haya_text.specs.Texts.{TextView, text_read}
use Rattle.haya_numbers.specs.Numeric.{NumericView}
use Rattle.haya_numbers.specs.NumericReading.{numeric_read}
use Rattle.haya_numbers.specs.Pages.{PartView}
use Rattle.haya_numbers.specs.PagesReading.{pages_read}
use Rattle.haya_time.specs.DateReading.{date_read}
use Rattle.haya_time.specs.DurationReading.{duration_read, range_read}
use Rattle.haya_time.specs.declared.date.Date.{Date}
use Rattle.haya_time.specs.declared.duration.Duration.{Duration}
use Rattle.haya_time.specs.declared.duration.range.DurationRange.{DurationRange}
use Rattle.haya_people.specs.Person.{PersonView}
use Rattle.haya_people.specs.Reading.{person_read}
use Rattle.haya_people.specs.Roles.{RoleView, RolesView, role_read, role_view}
use Rattle.haya_values.specs.MaybeTyped.{TypedOrText, typed_or_text}
use Rattle.haya_values.specs.Publisher.{PublisherView, publisher_read}
use Rattle.haya_values.specs.Url.{UrlView, undated}
use Rattle.haya_entry.specs.declared.field_name.FieldName.{FieldName}
use Rattle.haya_entry.specs.declared.field_name.FieldName.TheVariants as field
use Rattle.haya_entry.specs.FieldName.{field_name, field_named}
use Rattle.haya_entry.specs.SerialNumber.{with_serial}
use Rattle.haya_entry.specs.Tree.{Fields}
use Rattle.haya_lines.specs.Signs.{colon}
use Rattle.haya_lines.specs.declared.error.LineError.{LineError}
use Rattle.haya_lines.specs.declared.error.LineError.TheVariants.{Shape, UnknownField, RefusedValue}

-- what follows from a value, or the fault
abbrev pub and_then : {T U E : Type 0} → Result T E → (T → Result U E) → Result U E
and_then (Ok x) f = f x
and_then (Err e) f = Err e

-- what stands before the first of these signs, and what stands behind it
abbrev pub cut_at : ℕ → List ℕ → Option (List ℕ × List ℕ)
cut_at sign text =
    option_map (λ i. (take i text, drop (i + 1) text)) (position (λ b. b == sign) text)

-- ---- what a value reads as, or why it is refused

-- what is read, or a refused value
abbrev pub ok_or_refused : {V : Type 0} → Option V → Result V LineError
ok_or_refused read = ok_or read RefusedValue

abbrev pub bytes_of : List ℕ → Result (List ℕ) LineError
bytes_of value = Ok value

abbrev pub text_of : List ℕ → Result TextView LineError
text_of value = ok_or_refused (text_read value)

abbrev pub person_of : List ℕ → Result PersonView LineError
person_of value = ok_or_refused (result_ok (person_read value))

abbrev pub number_of : List ℕ → Result NumericView LineError
number_of value = ok_or_refused (result_ok (numeric_read value))

abbrev pub date_of : List ℕ → Result Date LineError
date_of value = ok_or_refused (result_ok (date_read (chars value)))

abbrev pub publisher_of : List ℕ → Result PublisherView LineError
publisher_of value = ok_or_refused (publisher_read value)

abbrev pub url_of : List ℕ → Result UrlView LineError
url_of value = Ok (undated value)

abbrev pub number_or_text_of : List ℕ → Result (TypedOrText NumericView) LineError
number_or_text_of value = Ok (typed_or_text (result_ok (numeric_read value)) value)

abbrev pub pages_or_text_of : List ℕ → Result (TypedOrText (List PartView)) LineError
pages_or_text_of value = Ok (typed_or_text (result_ok (pages_read (chars value))) value)

abbrev pub range_or_text_of : List ℕ → Result (TypedOrText DurationRange) LineError
range_or_text_of value = Ok (typed_or_text (result_ok (range_read (chars value))) value)

abbrev pub duration_or_text_of : List ℕ → Result (TypedOrText Duration) LineError
duration_or_text_of value = Ok (typed_or_text (result_ok (duration_read (chars value))) value)

abbrev pub role_of : List ℕ → Result RoleView LineError
role_of name = ok_or_refused (option_map role_view (role_read name))

-- a role and one person, separated by the first colon
abbrev pub affiliated_of : List ℕ → Result RolesView LineError
affiliated_of value =
    and_then (ok_or (cut_at colon value) Shape) (λ cut.
    and_then (role_of cut.0) (λ role.
    and_then (person_of cut.1) (λ person.
    Ok (record { names = person ∷ []; role = role }))))

-- ---- what the values change

-- what makes of a value and fields the fields after it is set, or says why it can't be
abbrev pub Setter : Type 0
Setter = List ℕ → Fields → Result Fields LineError

-- the setter of a field: it puts there what the value reads as
abbrev pub field_setter : {V : Type 0} → (List ℕ → Result V LineError) → (V → Fields → Fields)
    → Setter
field_setter read with_value value f = and_then (read value) (λ v. Ok (with_value v f))

-- the values of a list that begins with its first one, and this one behind them
abbrev pub with_last : {V : Type 0} → Option (List V) → V → Option (List V)
with_last vs v = Some (unwrap_or vs [] ++ v ∷ [])

-- the fields with one more serial number, or another in the place of that with its key
abbrev pub with_number : List ℕ → List ℕ → Fields → Fields
with_number key value f = record f { serial_number = Some (with_serial key value f.serial_number) }

-- for each field what its values read as, and what they change
abbrev pub setter : FieldName → Setter
setter field.Title = field_setter text_of (λ v f. record f { title = Some v })
setter field.Location = field_setter text_of (λ v f. record f { location = Some v })
setter field.Organization = field_setter text_of (λ v f. record f { organization = Some v })
setter field.Archive = field_setter text_of (λ v f. record f { archive = Some v })
setter field.ArchiveLocation = field_setter text_of (λ v f. record f { archive_location = Some v })
setter field.CallNumber = field_setter text_of (λ v f. record f { call_number = Some v })
setter field.Note = field_setter text_of (λ v f. record f { note = Some v })
setter field.Abstract = field_setter text_of (λ v f. record f { abstract_ = Some v })
setter field.Genre = field_setter text_of (λ v f. record f { genre = Some v })
setter field.Author = field_setter person_of (λ v f. record f { authors = with_last f.authors v })
setter field.Editor = field_setter person_of (λ v f. record f { editors = with_last f.editors v })
setter field.Affiliated =
    field_setter affiliated_of (λ v f. record f { affiliated = with_last f.affiliated v })
setter field.Date = field_setter date_of (λ v f. record f { date = Some v })
setter field.Publisher = field_setter publisher_of (λ v f. record f { publisher = Some v })
setter field.Url = field_setter url_of (λ v f. record f { url = Some v })
setter field.Issue = field_setter number_or_text_of (λ v f. record f { issue = Some v })
setter field.Chapter = field_setter number_or_text_of (λ v f. record f { chapter = Some v })
setter field.Volume = field_setter number_or_text_of (λ v f. record f { volume = Some v })
setter field.Edition = field_setter number_or_text_of (λ v f. record f { edition = Some v })
setter field.VolumeTotal = field_setter number_of (λ v f. record f { volume_total = Some v })
setter field.PageTotal = field_setter number_of (λ v f. record f { page_total = Some v })
setter field.PageRange = field_setter pages_or_text_of (λ v f. record f { page_range = Some v })
setter field.TimeRange = field_setter range_or_text_of (λ v f. record f { time_range = Some v })
setter field.Runtime = field_setter duration_or_text_of (λ v f. record f { runtime = Some v })
setter field.SerialNumber = field_setter bytes_of (with_number (codes "serial"))
setter field.Language = field_setter bytes_of (λ v f. record f { language = Some v })
setter field.Doi = field_setter bytes_of (with_number (field_name field.Doi))
setter field.Isbn = field_setter bytes_of (with_number (field_name field.Isbn))
setter field.Issn = field_setter bytes_of (with_number (field_name field.Issn))
setter field.Pmid = field_setter bytes_of (with_number (field_name field.Pmid))
setter field.Pmcid = field_setter bytes_of (with_number (field_name field.Pmcid))
setter field.Arxiv = field_setter bytes_of (with_number (field_name field.Arxiv))

-- the fields after the value is set under this name, or why it can't be
abbrev pub with_field : List ℕ → Setter
with_field name value f =
    and_then (ok_or (field_named name) UnknownField) (λ named. setter named value f)
