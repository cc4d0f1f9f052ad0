-- The fields of entries, by their names.
use Rattle.std.specs.Prelude.{ℕ, Bool, List, [], ◌∷◌, Option, codes, find}
use Rattle.std.specs.Str.{bytes_eq}
use Rattle.haya_entry.specs.declared.field_name.FieldName.{FieldName}
use Rattle.haya_entry.specs.declared.field_name.FieldName.TheVariants.{Title, Location, Organization, Archive, ArchiveLocation, CallNumber, Note, Abstract, Genre, Author, Editor, Affiliated, Date, Publisher, Url, Issue, Chapter, Volume, Edition, VolumeTotal, PageTotal, PageRange, TimeRange, Runtime, SerialNumber, Language, Doi, Isbn, Issn, Pmid, Pmcid, Arxiv}

-- the name of a field, as it is written
abbrev pub field_name : FieldName → List ℕ
field_name Title = codes "title"
field_name Location = codes "location"
field_name Organization = codes "organization"
field_name Archive = codes "archive"
field_name ArchiveLocation = codes "archive-location"
field_name CallNumber = codes "call-number"
field_name Note = codes "note"
field_name Abstract = codes "abstract"
field_name Genre = codes "genre"
field_name Author = codes "author"
field_name Editor = codes "editor"
field_name Affiliated = codes "affiliated"
field_name Date = codes "date"
field_name Publisher = codes "publisher"
field_name Url = codes "url"
field_name Issue = codes "issue"
field_name Chapter = codes "chapter"
field_name Volume = codes "volume"
field_name Edition = codes "edition"
field_name VolumeTotal = codes "volume-total"
field_name PageTotal = codes "page-total"
field_name PageRange = codes "page-range"
field_name TimeRange = codes "time-range"
field_name Runtime = codes "runtime"
field_name SerialNumber = codes "serial-number"
field_name Language = codes "language"
field_name Doi = codes "doi"
field_name Isbn = codes "isbn"
field_name Issn = codes "issn"
field_name Pmid = codes "pmid"
field_name Pmcid = codes "pmcid"
field_name Arxiv = codes "arxiv"

-- every field, in the order of the enum
abbrev pub all_fields : List FieldName
all_fields =
    Title ∷ Location ∷ Organization ∷ Archive ∷ ArchiveLocation ∷ CallNumber ∷ Note ∷ Abstract
    ∷ Genre ∷ Author ∷ Editor ∷ Affiliated ∷ Date ∷ Publisher ∷ Url ∷ Issue ∷ Chapter ∷ Volume
    ∷ Edition ∷ VolumeTotal ∷ PageTotal ∷ PageRange ∷ TimeRange ∷ Runtime ∷ SerialNumber ∷
    Language ∷ Doi ∷ Isbn ∷ Issn ∷ Pmid ∷ Pmcid ∷ Arxiv ∷ []

-- whether the text is the field's name
abbrev pub is_field_named : List ℕ → FieldName → Bool
is_field_named text field = bytes_eq (field_name field) text

-- the field with this name
abbrev pub field_named : List ℕ → Option FieldName
field_named text = find (is_field_named text) all_fields
