-- What the values of members say, and what they set.
use Rattle.std.specs.Prelude.{ℕ, Bool, false, List, [], ◌∷◌, ◌++◌, Option, None, Some, is_some, option_map, option_and_then, codes, if◌then◌else◌}
use Rattle.std.specs.Result.{result_ok}
use Rattle.std.specs.Str.{chars}
use Rattle.json.specs.Json.{Json}
use Rattle.haya_text.specs.Chunks.{Chunk}
use Rattle.haya_text.specs.Texts.{TextView}
use Rattle.haya_time.specs.DurationReading.{duration_read}
use Rattle.haya_time.specs.declared.date.Date.{Date}
use Rattle.haya_time.specs.declared.duration.Duration.{Duration}
use Rattle.haya_numbers.specs.Numeric.{NumericView}
use Rattle.haya_numbers.specs.NumericReading.{numeric_read}
use Rattle.haya_numbers.specs.Pages.{PartView}
use Rattle.haya_numbers.specs.PagesReading.{pages_read}
use Rattle.haya_values.specs.MaybeTyped.{TypedOrText, Typed, typed_or_text}
use Rattle.haya_values.specs.Publisher.{PublisherView}
use Rattle.haya_entry.specs.Lookups.{add_affiliated_persons}
use Rattle.haya_entry.specs.Tree.{Fields, Tree, with_fields, with_keyed_serial_number}
use Rattle.haya_people.specs.Person.{PersonView}
use Rattle.haya_people.specs.Roles.{RoleView}
use Rattle.haya_json.specs.Notes.{LostView, lost_here, losts_view, named}
use Rattle.haya_json.specs.Parts.{member_of}
use Rattle.haya_json.specs.declared.fault.Why.TheVariants.{NotDuration, NotNumber}
use Rattle.haya_csl.specs.Said.{SaidView, says}
use Rattle.haya_csl.specs.Dates.{date_said}
use Rattle.haya_csl.specs.Names.{names_said}
use Rattle.haya_csl.specs.Serials.{archive_number_said, serial_said}
use Rattle.haya_csl.specs.Texts.{format_said, markup_said, plain_said, says_or, text_said}
use Rattle.haya_csl.specs.declared.fields.Field.{Field}
use Rattle.haya_csl.specs.declared.fields.Field.TheVariants as field
use Rattle.haya_csl.specs.declared.fields.NumberField.{NumberField}
use Rattle.haya_csl.specs.declared.fields.NumberField.TheVariants as numbers
use Rattle.haya_csl.specs.declared.fields.SerialField.{SerialField}
use Rattle.haya_csl.specs.declared.fields.Set.{Set}
use Rattle.haya_csl.specs.declared.fields.TextField.{TextField}
use Rattle.haya_csl.specs.declared.fields.TextField.TheVariants as texts

-- what a value makes of an entry, whether it sets anything, and what is lost of it
pub record SetView : Type 0 where
  pub after : Tree
  pub is_set : Bool
  pub lost : List LostView

abbrev pub Setter : Type 0
Setter = Json → Tree → SetView

-- what the code's value says of the entry after it
abbrev pub set_view : Set → Tree → SetView
set_view s t = record { after = t; is_set = s.is_set; lost = losts_view s.lost.items }

-- the entry after a value is put into it, if there is one
abbrev pub with_some : {V : Type 0} → (V → Tree → Tree) → Option V → Tree → Tree
with_some put None t = t
with_some put (Some v) t = put v t

abbrev pub set_by : {V : Type 0} → (V → Tree → Tree) → SaidView V → Tree → SetView
set_by put said t =
    record { after = with_some put said.value t; is_set = is_some said.value; lost = said.lost }

-- the setter that puts there what the value says, if it says anything
abbrev pub tree_setter : {V : Type 0} → (Json → SaidView V) → (V → Tree → Tree) → Setter
tree_setter read put j t = set_by put (read j) t

abbrev pub field_setter : {V : Type 0} → (Json → SaidView V) → (V → Fields → Fields) → Setter
field_setter read put = tree_setter read (λ v. with_fields (put v))

-- ---- texts

-- a title beside a short form that may have come before it
abbrev pub with_title : List Chunk → Fields → Fields
with_title value f = record f {
  title = Some (record { value = value; short = option_map (λ t. t.value) f.title });
}

-- a short form, which is the title itself as long as there is no other
abbrev pub with_short : List Chunk → Option TextView → TextView
with_short short None = record { value = short; short = None }
with_short short (Some title) = record { value = title.value; short = Some short }

abbrev pub with_short_title : List Chunk → Fields → Fields
with_short_title short f = record f { title = Some (with_short short f.title) }

abbrev pub with_text : TextField → TextView → Fields → Fields
with_text texts.Location v f = record f { location = Some v }
with_text texts.Organization v f = record f { organization = Some v }
with_text texts.Archive v f = record f { archive = Some v }
with_text texts.ArchiveLocation v f = record f { archive_location = Some v }
with_text texts.CallNumber v f = record f { call_number = Some v }
with_text texts.Note v f = record f { note = Some v }
with_text texts.Abstract v f = record f { abstract_ = Some v }
with_text texts.Genre v f = record f { genre = Some v }

abbrev pub with_language : List ℕ → Fields → Fields
with_language v f = record f { language = Some v }

-- ---- persons

abbrev pub with_authors : List PersonView → Fields → Fields
with_authors v f = record f { authors = Some v }

abbrev pub with_editors : List PersonView → Fields → Fields
with_editors v f = record f { editors = Some v }

-- ---- numbers

-- the text of a number, or any other text
abbrev pub number_said : Json → SaidView (TypedOrText NumericView)
number_said j =
    text_said (λ text. says (typed_or_text (result_ok (numeric_read text)) text)) j

-- the text of a number
abbrev pub count_said : Json → SaidView NumericView
count_said j = text_said (λ text. says_or NotNumber (result_ok (numeric_read text))) j

-- the text of pages, or any other text
abbrev pub pages_said : Json → SaidView (TypedOrText (List PartView))
pages_said j =
    text_said (λ text. says (typed_or_text (result_ok (pages_read (chars text))) text)) j

-- the text of a duration
abbrev pub runtime_said : Json → SaidView Duration
runtime_said j =
    text_said (λ text. says_or NotDuration (result_ok (duration_read (chars text)))) j

abbrev pub number_setter : NumberField → Setter
number_setter numbers.Volume = field_setter number_said (λ v f. record f { volume = Some v })
number_setter numbers.Issue = field_setter number_said (λ v f. record f { issue = Some v })
number_setter numbers.Edition = field_setter number_said (λ v f. record f { edition = Some v })
number_setter numbers.Chapter = field_setter number_said (λ v f. record f { chapter = Some v })
number_setter numbers.VolumeTotal =
    field_setter count_said (λ v f. record f { volume_total = Some v })
number_setter numbers.PageTotal =
    field_setter count_said (λ v f. record f { page_total = Some v })
number_setter numbers.Pages = field_setter pages_said (λ v f. record f { page_range = Some v })
number_setter numbers.Runtime =
    field_setter runtime_said (λ v f. record f { runtime = Some (Typed v) })

-- ---- dates and addresses

abbrev pub with_date : Date → Fields → Fields
with_date v f = record f { date = Some v }

-- the date of a visit is lost where the item has no address
abbrev pub lost_visit : LostView
lost_visit = lost_here (named (codes "accessed without URL"))

abbrev pub without_url : Bool → Option Date → List LostView
without_url has_url None = []
without_url has_url (Some date) = if has_url then [] else lost_visit ∷ []

-- what a member of an item says, if it is there
abbrev pub said_at : {V : Type 0} → List ℕ → (Json → SaidView V) → Json → Option V
said_at name read item = option_and_then (λ j. (read j).value) (member_of name item)

-- the date of a visit, which is kept with the address
abbrev pub visit_date_setter : List ℕ → Json → Setter
visit_date_setter name item j t = record {
  after = t;
  is_set = false;
  lost =
      (date_said name j).lost
      ++ without_url (is_some (said_at (codes "URL") plain_said item)) (date_said name j).value;
}

abbrev pub visit_date : Json → Option Date
visit_date item = said_at (codes "accessed") (date_said (codes "accessed")) item

abbrev pub url_setter : Json → Setter
url_setter item =
    field_setter plain_said
    (λ v f. record f { url = Some (record { value = v; visit_date = visit_date item }) })

-- ---- publishers

abbrev pub location_of : Option PublisherView → Option TextView
location_of publisher = option_and_then (λ p. p.location) publisher

abbrev pub name_of_publisher : Option PublisherView → Option TextView
name_of_publisher publisher = option_and_then (λ p. p.name) publisher

abbrev pub with_publisher_name : TextView → Fields → Fields
with_publisher_name name f = record f {
  publisher = Some (record { name = Some name; location = location_of f.publisher });
}

abbrev pub with_publisher_place : TextView → Fields → Fields
with_publisher_place place f = record f {
  publisher = Some (record { name = name_of_publisher f.publisher; location = Some place });
}

-- ---- serial numbers

abbrev pub with_key : List ℕ × List ℕ → Tree → Tree
with_key n = with_keyed_serial_number n.0 n.1

abbrev pub serial_setter : SerialField → Setter
serial_setter s = tree_setter (serial_said s) with_key

-- ---- the fields

-- the setter of a field, by the name of the member and the item
abbrev pub setter_of : Field → List ℕ → Json → Setter
setter_of field.Title name item = field_setter markup_said with_title
setter_of field.ShortTitle name item = field_setter markup_said with_short_title
setter_of field.Authors name item = field_setter (names_said name) with_authors
setter_of field.Editors name item = field_setter (names_said name) with_editors
setter_of field.Date name item = field_setter (date_said name) with_date
setter_of field.VisitDate name item = visit_date_setter name item
setter_of field.Url name item = url_setter item
setter_of field.PublisherName name item = field_setter format_said with_publisher_name
setter_of field.PublisherPlace name item = field_setter format_said with_publisher_place
setter_of field.Language name item = field_setter plain_said with_language
setter_of (field.Text f) name item = field_setter format_said (with_text f)
setter_of field.ArchiveNumber name item =
    field_setter archive_number_said (with_text texts.CallNumber)
setter_of (field.Number f) name item = number_setter f
setter_of (field.Serial f) name item = serial_setter f

-- the setter of persons with this role, who come last; by the name of the member
abbrev pub role_setter : RoleView → List ℕ → Setter
role_setter role name =
    tree_setter (names_said name)
    (λ names t. add_affiliated_persons (record { names = names; role = role }) t)
