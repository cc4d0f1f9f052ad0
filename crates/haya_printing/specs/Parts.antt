-- The parts of an entry that can be left out of its lines, and the entry without them.
use Rattle.std.specs.Prelude.{Bool, false, List, Option, None, map, fold, is_some, option_and_then, option_map}
use Rattle.std.specs.List.{list_any}
use Rattle.std.specs.Option.{option_map_or}
use Rattle.haya_entry.specs.declared.field_name.FieldName.{FieldName}
use Rattle.haya_entry.specs.declared.field_name.FieldName.TheVariants as field
use Rattle.haya_entry.specs.Tree.{Fields}
use Rattle.haya_people.specs.Person.{PersonView}
use Rattle.haya_people.specs.Roles.{RolesView}
use Rattle.haya_text.specs.Texts.{TextView, without_short}
use Rattle.haya_values.specs.Publisher.{PublisherView}
use Rattle.haya_values.specs.Url.{UrlView, undated}
use Rattle.haya_printing.specs.declared.left_out.Part.{Part}
use Rattle.haya_printing.specs.declared.left_out.Part.TheVariants.{ShortForm, Alias, PublisherLocation, VisitDate, Field}
use Rattle.haya_printing.specs.Printed.{publisher_name}

-- ---- values as lines have room for them

abbrev pub long_alone : TextView → TextView
long_alone t = without_short t.value

abbrev pub without_alias : PersonView → PersonView
without_alias p = record p { alias = None }

abbrev pub without_aliases : RolesView → RolesView
without_aliases r = record r { names = map without_alias r.names }

abbrev pub name_alone : PublisherView → PublisherView
name_alone p = record p { location = None }

abbrev pub long_name : PublisherView → PublisherView
long_name p = record p { name = option_map long_alone p.name }

abbrev pub address_alone : UrlView → UrlView
address_alone u = undated u.value

-- ---- the parts that lines have no room for

-- the text that a field is
abbrev pub text_of : FieldName → Fields → Option TextView
text_of field.Title f = f.title
text_of field.Location f = f.location
text_of field.Organization f = f.organization
text_of field.Archive f = f.archive
text_of field.ArchiveLocation f = f.archive_location
text_of field.CallNumber f = f.call_number
text_of field.Note f = f.note
text_of field.Abstract f = f.abstract_
text_of field.Genre f = f.genre
text_of field.Publisher f = publisher_name f.publisher
text_of _ f = None

abbrev pub has_short_form : Option TextView → Bool
has_short_form text = is_some (option_and_then (λ t. t.short) text)

abbrev pub has_alias : PersonView → Bool
has_alias p = is_some p.alias

abbrev pub have_alias : Option (List PersonView) → Bool
have_alias people = option_map_or (list_any has_alias) people false

abbrev pub have_alias_in_roles : Option (List RolesView) → Bool
have_alias_in_roles roles = option_map_or (list_any (λ r. list_any has_alias r.names)) roles false

-- whether someone in a field has an alias
abbrev pub alias_is_in : FieldName → Fields → Bool
alias_is_in field.Author f = have_alias f.authors
alias_is_in field.Editor f = have_alias f.editors
alias_is_in field.Affiliated f = have_alias_in_roles f.affiliated
alias_is_in _ f = false

-- whether the fields have a part that lines have no room for
abbrev pub has_part : Part → Fields → Bool
has_part (ShortForm name) f = has_short_form (text_of name f)
has_part (Alias name) f = alias_is_in name f
has_part PublisherLocation f = is_some (option_and_then (λ p. p.location) f.publisher)
has_part VisitDate f = is_some (option_and_then (λ u. u.visit_date) f.url)
has_part _ f = false

-- ---- fields without a part

abbrev pub without_short_form : FieldName → Fields → Fields
without_short_form field.Title f = record f { title = option_map long_alone f.title }
without_short_form field.Location f = record f { location = option_map long_alone f.location }
without_short_form field.Organization f =
    record f { organization = option_map long_alone f.organization }
without_short_form field.Archive f = record f { archive = option_map long_alone f.archive }
without_short_form field.ArchiveLocation f =
    record f { archive_location = option_map long_alone f.archive_location }
without_short_form field.CallNumber f =
    record f { call_number = option_map long_alone f.call_number }
without_short_form field.Note f = record f { note = option_map long_alone f.note }
without_short_form field.Abstract f = record f { abstract_ = option_map long_alone f.abstract_ }
without_short_form field.Genre f = record f { genre = option_map long_alone f.genre }
without_short_form field.Publisher f = record f { publisher = option_map long_name f.publisher }
without_short_form _ f = f

abbrev pub without_alias_in : FieldName → Fields → Fields
without_alias_in field.Author f = record f { authors = option_map (map without_alias) f.authors }
without_alias_in field.Editor f = record f { editors = option_map (map without_alias) f.editors }
without_alias_in field.Affiliated f =
    record f { affiliated = option_map (map without_aliases) f.affiliated }
without_alias_in _ f = f

abbrev pub without_field : FieldName → Fields → Fields
without_field field.Title f = record f { title = None }
without_field field.Location f = record f { location = None }
without_field field.Organization f = record f { organization = None }
without_field field.Archive f = record f { archive = None }
without_field field.ArchiveLocation f = record f { archive_location = None }
without_field field.CallNumber f = record f { call_number = None }
without_field field.Note f = record f { note = None }
without_field field.Abstract f = record f { abstract_ = None }
without_field field.Genre f = record f { genre = None }
without_field field.Author f = record f { authors = None }
without_field field.Editor f = record f { editors = None }
without_field field.Affiliated f = record f { affiliated = None }
without_field field.Date f = record f { date = None }
without_field field.Publisher f = record f { publisher = None }
without_field field.Url f = record f { url = None }
without_field field.Issue f = record f { issue = None }
without_field field.Chapter f = record f { chapter = None }
without_field field.Volume f = record f { volume = None }
without_field field.Edition f = record f { edition = None }
without_field field.VolumeTotal f = record f { volume_total = None }
without_field field.PageTotal f = record f { page_total = None }
without_field field.PageRange f = record f { page_range = None }
without_field field.TimeRange f = record f { time_range = None }
without_field field.Runtime f = record f { runtime = None }
without_field field.SerialNumber f = record f { serial_number = None }
without_field field.Language f = record f { language = None }
without_field _ f = f

-- the fields without these ones
abbrev pub without_fields : List FieldName → Fields → Fields
without_fields names f = fold (λ g name. without_field name g) f names

-- The fields without a part; the key and the parents are none of the fields.
abbrev pub without : Part → Fields → Fields
without (ShortForm name) f = without_short_form name f
without (Alias name) f = without_alias_in name f
without PublisherLocation f = record f { publisher = option_map name_alone f.publisher }
without VisitDate f = record f { url = option_map address_alone f.url }
without (Field name) f = without_field name f
without _ f = f
