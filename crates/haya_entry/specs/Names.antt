-- The type of an entry, and the names that it has.
use Rattle.std.specs.Prelude.{ℕ, Bool, false, List, is_some}
use Rattle.std.specs.List.{list_all}
use Rattle.std.specs.Option.{option_map_or}
use denote.Enum.Bare.{sameb}
use Rattle.haya_entry.specs.contracts.types.EntryType.{the_type}
use Rattle.haya_entry.specs.declared.types.EntryType.{EntryType}
use Rattle.haya_entry.specs.declared.field_name.FieldName.{FieldName}
use Rattle.haya_entry.specs.declared.field_name.FieldName.TheVariants as field
use Rattle.haya_entry.specs.FieldName.{field_name, field_named}
use Rattle.haya_entry.specs.Tree.{Tree, fields, keyed_serial_number}

-- whether the entry has this type
abbrev pub is_of_type : EntryType → Tree → Bool
is_of_type kind t = sameb the_type (fields t).entry_type kind

-- whether a serial number is kept under the field's name
abbrev pub has_serial_number : Tree → FieldName → Bool
has_serial_number t name = is_some (keyed_serial_number (field_name name) t)

-- whether the entry has a field: it is set, or a serial number is kept under its name
abbrev pub has_field : Tree → FieldName → Bool
has_field t field.Title = is_some (fields t).title
has_field t field.Location = is_some (fields t).location
has_field t field.Organization = is_some (fields t).organization
has_field t field.Archive = is_some (fields t).archive
has_field t field.ArchiveLocation = is_some (fields t).archive_location
has_field t field.CallNumber = is_some (fields t).call_number
has_field t field.Note = is_some (fields t).note
has_field t field.Abstract = is_some (fields t).abstract_
has_field t field.Genre = is_some (fields t).genre
has_field t field.Author = is_some (fields t).authors
has_field t field.Editor = is_some (fields t).editors
has_field t field.Affiliated = is_some (fields t).affiliated
has_field t field.Date = is_some (fields t).date
has_field t field.Publisher = is_some (fields t).publisher
has_field t field.Url = is_some (fields t).url
has_field t field.Issue = is_some (fields t).issue
has_field t field.Chapter = is_some (fields t).chapter
has_field t field.Volume = is_some (fields t).volume
has_field t field.Edition = is_some (fields t).edition
has_field t field.VolumeTotal = is_some (fields t).volume_total
has_field t field.PageTotal = is_some (fields t).page_total
has_field t field.PageRange = is_some (fields t).page_range
has_field t field.TimeRange = is_some (fields t).time_range
has_field t field.Runtime = is_some (fields t).runtime
has_field t field.SerialNumber = is_some (fields t).serial_number
has_field t field.Language = is_some (fields t).language
has_field t field.Doi = has_serial_number t field.Doi
has_field t field.Isbn = has_serial_number t field.Isbn
has_field t field.Issn = has_serial_number t field.Issn
has_field t field.Pmid = has_serial_number t field.Pmid
has_field t field.Pmcid = has_serial_number t field.Pmcid
has_field t field.Arxiv = has_serial_number t field.Arxiv

-- whether the entry has the name: it is that of a field, and the entry has this field
abbrev pub has_name : Tree → List ℕ → Bool
has_name t name = option_map_or (has_field t) (field_named name) false

-- whether the entry has every name
abbrev pub has_all : List (List ℕ) → Tree → Bool
has_all names t = list_all (has_name t) names
