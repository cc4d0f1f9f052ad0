-- The values at each place of a hit, in order.
use Rattle.std.specs.Prelude.{ℕ, List, [], ◌∷◌, ◌++◌, map, Option, None, Some, option_and_then}
use Rattle.haya_text.specs.Texts.{TextView}
use Rattle.haya_people.specs.Roles.{RolesView}
use Rattle.haya_values.specs.MaybeTyped.{TypedOrText, Typed, Text}
use Rattle.haya_values.specs.Publisher.{PublisherView}
use Rattle.haya_values.specs.Url.{UrlView}
use Rattle.haya_entry.specs.EntryType.{in_lower_case, type_name}
use Rattle.haya_entry.specs.FieldName.{field_name}
use Rattle.haya_entry.specs.declared.field_name.FieldName.{FieldName}
use Rattle.haya_entry.specs.declared.field_name.FieldName.TheVariants as field
use Rattle.haya_entry.specs.Lookups.{affiliated_with_role}
use Rattle.haya_entry.specs.SerialNumber.{serial_text}
use Rattle.haya_entry.specs.Tree.{Fields, Tree, fields}
use Rattle.hayagriva.specs.Query.{hit_bound, hit_entry}
use Rattle.hayagriva.specs.declared.query.Hit.{Hit}
use Rattle.haya_questions.specs.Place.{PartView, FieldPart, KeyPart, TypePart, RolePart, PlaceView}
use Rattle.haya_questions.specs.Value.{ValueView, KeyValue, TextValue, UntypedValue, PersonValue, RoleValue, DateValue, NumberValue, PagesValue, DurationValue, RangeValue, long_text}

-- ---- what fields hold, as values

abbrev pub text_value : TextView → ValueView
text_value text = TextValue (long_text text)

abbrev pub url_value : UrlView → ValueView
url_value url = TextValue url.value

-- the typed value, or the text that is kept in its place
abbrev pub typed_value : {V : Type 0} → (V → ValueView) → TypedOrText V → ValueView
typed_value value_of (Typed v) = value_of v
typed_value value_of (Text text) = UntypedValue text

-- one value where the field is set
abbrev pub one : {V : Type 0} → (V → ValueView) → Option V → List ValueView
one value_of None = []
one value_of (Some v) = value_of v ∷ []

-- one value for each of a list that is set
abbrev pub each : {V : Type 0} → (V → ValueView) → Option (List V) → List ValueView
each value_of None = []
each value_of (Some vs) = map value_of vs

-- one value for each person in each role
abbrev pub in_roles : List RolesView → List ValueView
in_roles [] = []
in_roles (r ∷ rs) = map (RoleValue r.role) r.names ++ in_roles rs

abbrev pub each_in_roles : Option (List RolesView) → List ValueView
each_in_roles None = []
each_in_roles (Some rs) = in_roles rs

abbrev pub publisher_name : Option PublisherView → Option TextView
publisher_name publisher = option_and_then (λ p. p.name) publisher

-- the serial number under the field's name
abbrev pub serial_values : FieldName → Fields → List ValueView
serial_values name f = one TextValue (serial_text (field_name name) f.serial_number)

-- ---- the values of each part

abbrev pub field_values : FieldName → Fields → List ValueView
field_values field.Title f = one text_value f.title
field_values field.Location f = one text_value f.location
field_values field.Organization f = one text_value f.organization
field_values field.Archive f = one text_value f.archive
field_values field.ArchiveLocation f = one text_value f.archive_location
field_values field.CallNumber f = one text_value f.call_number
field_values field.Note f = one text_value f.note
field_values field.Abstract f = one text_value f.abstract_
field_values field.Genre f = one text_value f.genre
field_values field.Author f = each PersonValue f.authors
field_values field.Editor f = each PersonValue f.editors
field_values field.Affiliated f = each_in_roles f.affiliated
field_values field.Date f = one DateValue f.date
field_values field.Publisher f = one text_value (publisher_name f.publisher)
field_values field.Url f = one url_value f.url
field_values field.Issue f = one (typed_value NumberValue) f.issue
field_values field.Chapter f = one (typed_value NumberValue) f.chapter
field_values field.Volume f = one (typed_value NumberValue) f.volume
field_values field.Edition f = one (typed_value NumberValue) f.edition
field_values field.VolumeTotal f = one NumberValue f.volume_total
field_values field.PageTotal f = one NumberValue f.page_total
field_values field.PageRange f = one (typed_value PagesValue) f.page_range
field_values field.TimeRange f = one (typed_value RangeValue) f.time_range
field_values field.Runtime f = one (typed_value DurationValue) f.runtime
field_values field.SerialNumber f = each (λ e. TextValue e.1) f.serial_number
field_values field.Language f = one TextValue f.language
field_values field.Doi f = serial_values field.Doi f
field_values field.Isbn f = serial_values field.Isbn f
field_values field.Issn f = serial_values field.Issn f
field_values field.Pmid f = serial_values field.Pmid f
field_values field.Pmcid f = serial_values field.Pmcid f
field_values field.Arxiv f = serial_values field.Arxiv f

-- the values of a part of an entry
unfoldable pub part_values : PartView → Tree → List ValueView
part_values (FieldPart name) t = field_values name (fields t)
part_values KeyPart t = KeyValue (fields t).key ∷ []
part_values TypePart t = TextValue (in_lower_case (type_name (fields t).entry_type)) ∷ []
part_values (RolePart role) t = map PersonValue (affiliated_with_role role t)

-- ---- of a hit

-- the hit's entry, or the one that it binds to the name
abbrev pub entry_named : Option (List ℕ) → Hit → Option Tree
entry_named None hit = Some (hit_entry hit)
entry_named (Some name) hit = hit_bound hit name

-- the values of the part of an entry, if there is one
abbrev pub values_of : PartView → Option Tree → List ValueView
values_of part None = []
values_of part (Some t) = part_values part t

-- the values at a place of a hit
abbrev pub values_at : PlaceView → Hit → List ValueView
values_at place hit = values_of place.part (entry_named place.name hit)
