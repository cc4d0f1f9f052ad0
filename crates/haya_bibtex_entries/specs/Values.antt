-- The values that fields of entries say, and what each makes of an entry.
use Rattle.std.specs.Prelude.{ℕ, List, codes, map, Some, string_bytes}
use Rattle.haya_numbers.specs.Numeric.{NumericView, numeric_view}
use Rattle.haya_numbers.specs.Pages.{PartView, parts}
use Rattle.haya_people.specs.Person.{PersonView, person_view}
use Rattle.haya_people.specs.Roles.{RolesView, roles_view}
use Rattle.haya_text.specs.Texts.{TextView, text_view}
use Rattle.haya_time.specs.declared.date.Date.{Date}
use Rattle.haya_values.specs.MaybeTyped.{TypedOrText, maybe_typed_view}
use Rattle.haya_values.specs.Publisher.{PublisherView, publisher_view}
use Rattle.haya_values.specs.Url.{UrlView, url_view}
use Rattle.haya_entry.specs.Tree.{Fields, Tree, with_fields, with_keyed_serial_number}
use Rattle.haya_bibtex_entries.specs.declared.values.CountField.{CountField}
use Rattle.haya_bibtex_entries.specs.declared.values.CountField.TheVariants as counts
use Rattle.haya_bibtex_entries.specs.declared.values.NumberField.{NumberField}
use Rattle.haya_bibtex_entries.specs.declared.values.NumberField.TheVariants as numbers
use Rattle.haya_bibtex_entries.specs.declared.values.SerialField.{SerialField}
use Rattle.haya_bibtex_entries.specs.declared.values.SerialField.TheVariants as serials
use Rattle.haya_bibtex_entries.specs.declared.values.TextField.{TextField}
use Rattle.haya_bibtex_entries.specs.declared.values.TextField.TheVariants as texts
use Rattle.haya_bibtex_entries.specs.declared.values.Value.{Value}
use Rattle.haya_bibtex_entries.specs.declared.values.Value.TheVariants as value

-- a value of one of an entry's fields
pub data FieldValue : Type 0 where
  title_value : TextView → FieldValue
  text_value : TextField → TextView → FieldValue
  authors_value : List PersonView → FieldValue
  editors_value : List PersonView → FieldValue
  affiliated_value : List RolesView → FieldValue
  date_value : Date → FieldValue
  publisher_value : PublisherView → FieldValue
  url_value : UrlView → FieldValue
  number_value : NumberField → TypedOrText NumericView → FieldValue
  count_value : CountField → NumericView → FieldValue
  pages_value : TypedOrText (List PartView) → FieldValue
  serial_value : SerialField → List ℕ → FieldValue
  language_value : List ℕ → FieldValue

-- ---- what it makes of an entry

abbrev pub with_text : TextField → TextView → Fields → Fields
with_text texts.Location v f = record f { location = Some v }
with_text texts.Organization v f = record f { organization = Some v }
with_text texts.Archive v f = record f { archive = Some v }
with_text texts.CallNumber v f = record f { call_number = Some v }
with_text texts.Note v f = record f { note = Some v }
with_text texts.Abstract v f = record f { abstract_ = Some v }
with_text texts.Genre v f = record f { genre = Some v }

abbrev pub with_number : NumberField → TypedOrText NumericView → Fields → Fields
with_number numbers.Volume v f = record f { volume = Some v }
with_number numbers.Issue v f = record f { issue = Some v }
with_number numbers.Edition v f = record f { edition = Some v }
with_number numbers.Chapter v f = record f { chapter = Some v }

abbrev pub with_count : CountField → NumericView → Fields → Fields
with_count counts.Volumes v f = record f { volume_total = Some v }
with_count counts.Pages v f = record f { page_total = Some v }

abbrev pub serial_key : SerialField → List ℕ
serial_key serials.Doi = codes "doi"
serial_key serials.Isbn = codes "isbn"
serial_key serials.Issn = codes "issn"
serial_key serials.Pmid = codes "pmid"
serial_key serials.Pmcid = codes "pmcid"
serial_key serials.Arxiv = codes "arxiv"
serial_key serials.Other = codes "serial"

abbrev pub with_value : FieldValue → Tree → Tree
with_value (title_value v) t = with_fields (λ f. record f { title = Some v }) t
with_value (text_value field v) t = with_fields (with_text field v) t
with_value (authors_value v) t = with_fields (λ f. record f { authors = Some v }) t
with_value (editors_value v) t = with_fields (λ f. record f { editors = Some v }) t
with_value (affiliated_value v) t = with_fields (λ f. record f { affiliated = Some v }) t
with_value (date_value v) t = with_fields (λ f. record f { date = Some v }) t
with_value (publisher_value v) t = with_fields (λ f. record f { publisher = Some v }) t
with_value (url_value v) t = with_fields (λ f. record f { url = Some v }) t
with_value (number_value field v) t = with_fields (with_number field v) t
with_value (count_value field v) t = with_fields (with_count field v) t
with_value (pages_value v) t = with_fields (λ f. record f { page_range = Some v }) t
with_value (serial_value field v) t = with_keyed_serial_number (serial_key field) v t
with_value (language_value v) t = with_fields (λ f. record f { language = Some v }) t

-- ---- of the code's values

abbrev pub value_view : Value → FieldValue
value_view (value.Title v) = title_value (text_view v)
value_view (value.Text field v) = text_value field (text_view v)
value_view (value.Authors v) = authors_value (map person_view v.items)
value_view (value.Editors v) = editors_value (map person_view v.items)
value_view (value.Affiliated v) = affiliated_value (map roles_view v.items)
value_view (value.On v) = date_value v
value_view (value.By v) = publisher_value (publisher_view v)
value_view (value.Url v) = url_value (url_view v)
value_view (value.Number field v) = number_value field (maybe_typed_view numeric_view v)
value_view (value.Count field v) = count_value field (numeric_view v)
value_view (value.Pages v) = pages_value (maybe_typed_view parts v)
value_view (value.Serial field v) = serial_value field (string_bytes v)
value_view (value.Language v) = language_value (string_bytes v)
