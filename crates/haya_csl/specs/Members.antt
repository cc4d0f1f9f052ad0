-- The members of an item: the field that each sets, and the entry whose field that is.
use Rattle.std.specs.Prelude.{ℕ, ◌&&◌, Bool, List, [], ◌∷◌, Option, None, Some, option_map, unwrap_or, codes, if◌then◌else◌}
use Rattle.std.specs.Map.{lookup}
use Rattle.std.specs.Str.{bytes_eq}
use Rattle.json.specs.Json.{Json}
use Rattle.haya_entry.specs.declared.types.EntryType.{EntryType}
use Rattle.haya_entry.specs.declared.types.EntryType.TheVariants.{Exhibition}
use Rattle.haya_csl.specs.Kinds.{has, text_at}
use Rattle.haya_csl.specs.Serials.{is_of_arxiv}
use Rattle.haya_csl.specs.declared.kinds.Kind.{Kind}
use Rattle.haya_csl.specs.declared.kinds.Host.{Host}
use Rattle.haya_csl.specs.declared.kinds.Own.{Own}
use Rattle.haya_csl.specs.declared.kinds.Own.TheVariants as own
use Rattle.haya_csl.specs.declared.kinds.Takes.{Takes}
use Rattle.haya_csl.specs.declared.kinds.Takes.TheVariants as takes
use Rattle.haya_csl.specs.declared.fields.Field.{Field}
use Rattle.haya_csl.specs.declared.fields.Field.TheVariants as field
use Rattle.haya_csl.specs.declared.fields.TextField.TheVariants as text
use Rattle.haya_csl.specs.declared.fields.NumberField.TheVariants as number
use Rattle.haya_csl.specs.declared.fields.SerialField.TheVariants as serial
use Rattle.haya_csl.specs.declared.members.Choice.{Choice}
use Rattle.haya_csl.specs.declared.members.Choice.TheVariants.{Put, Pass}
use Rattle.haya_csl.specs.declared.members.Level.{Level}
use Rattle.haya_csl.specs.declared.members.Level.TheVariants as level
use Rattle.haya_csl.specs.declared.members.Place.{Place}

-- ---- tables of members

-- a member sets its field in any item
abbrev pub always : Field → Json → Choice
always f item = Put f

-- a member is passed over where the item has another that is preferred
abbrev pub unless : List ℕ → Field → Json → Choice
unless name f item = if has name item then Pass else Put f

abbrev pub MemberTable : Type 0
MemberTable = List (List ℕ × (Json → Choice))

-- what a table says of a member, if it has it
abbrev pub choice_in : MemberTable → List ℕ → Json → Option Choice
choice_in table name item = option_map (λ choose. choose item) (lookup (bytes_eq name) table)

-- ---- what goes to the item's own entry

-- whether arXiv keeps an item
abbrev pub is_at_arxiv : Json → Bool
is_at_arxiv item = bytes_eq (text_at (codes "archive") item) (codes "arXiv")

-- where an item is kept: at arXiv that is a number, where the item's own is none of arXiv, and
-- otherwise a call number
abbrev pub archive_location_in : Json → Choice
archive_location_in item =
    if is_at_arxiv item then (
    if is_of_arxiv (text_at (codes "number") item) then Pass
    else Put (field.Serial serial.Arxiv))
    else unless (codes "call-number") field.ArchiveNumber item

abbrev pub own_texts : MemberTable
own_texts =
    (codes "genre", always (field.Text text.Genre))
    ∷ (codes "medium", unless (codes "genre") (field.Text text.Genre))
    ∷ (codes "archive", always (field.Text text.Archive))
    ∷ (codes "archive_location", archive_location_in)
    ∷ (codes "archive-place", always (field.Text text.ArchiveLocation))
    ∷ (codes "call-number", always (field.Text text.CallNumber))
    ∷ (codes "event-place", always (field.Text text.Location))
    ∷ (codes "authority", always (field.Text text.Organization))
    ∷ []

abbrev pub own_serials : MemberTable
own_serials =
    (codes "DOI", always (field.Serial serial.Doi))
    ∷ (codes "PMID", always (field.Serial serial.Pmid))
    ∷ (codes "PMCID", always (field.Serial serial.Pmcid))
    ∷ (codes "ISBN", always (field.Serial serial.Isbn))
    ∷ (codes "ISSN", always (field.Serial serial.Issn))
    ∷ (codes "number", always (field.Serial serial.Number))
    ∷ own_texts

abbrev pub own_numbers : MemberTable
own_numbers =
    (codes "volume", always (field.Number number.Volume))
    ∷ (codes "issue", always (field.Number number.Issue))
    ∷ (codes "edition", always (field.Number number.Edition))
    ∷ (codes "chapter-number", always (field.Number number.Chapter))
    ∷ (codes "number-of-volumes", always (field.Number number.VolumeTotal))
    ∷ (codes "number-of-pages", always (field.Number number.PageTotal))
    ∷ (codes "page", always (field.Number number.Pages))
    ∷ (codes "dimensions", always (field.Number number.Runtime))
    ∷ own_serials

abbrev pub own_sources : MemberTable
own_sources =
    (codes "URL", always field.Url)
    ∷ (codes "publisher", always field.PublisherName)
    ∷ (codes "publisher-place", always field.PublisherPlace)
    ∷ (codes "language", always field.Language)
    ∷ (codes "abstract", always (field.Text text.Abstract))
    ∷ (codes "note", always (field.Text text.Note))
    ∷ (codes "annote", unless (codes "note") (field.Text text.Note))
    ∷ own_numbers

-- all of them
abbrev pub own_table : MemberTable
own_table =
    (codes "title", always field.Title)
    ∷ (codes "title-short", always field.ShortTitle)
    ∷ (codes "shortTitle", unless (codes "title-short") field.ShortTitle)
    ∷ (codes "author", always field.Authors)
    ∷ (codes "editor", always field.Editors)
    ∷ (codes "issued", always field.Date)
    ∷ (codes "accessed", always field.VisitDate)
    ∷ own_sources

-- members that some types have other places for: the publisher of a thesis, a report or a standard
-- is an organization, the title of a periodical may be that of a container, and the number of a
-- broadcast is that of an issue
abbrev pub exceptions : Own → MemberTable
exceptions own.Usual = []
exceptions own.Institution =
    (codes "publisher", always (field.Text text.Organization))
    ∷ (codes "authority", unless (codes "publisher") (field.Text text.Organization))
    ∷ (codes "publisher-place", always (field.Text text.Location))
    ∷ (codes "event-place", unless (codes "publisher-place") (field.Text text.Location))
    ∷ []
exceptions own.Periodical = (codes "container-title", unless (codes "title") field.Title) ∷ []
exceptions own.Broadcast =
    (codes "number", unless (codes "issue") (field.Number number.Issue)) ∷ []

-- ---- what goes to the entry that an item appears in

abbrev pub host_title : MemberTable
host_title =
    (codes "container-title", always field.Title)
    ∷ (codes "container-title-short", always field.ShortTitle)
    ∷ (codes "journalAbbreviation", unless (codes "container-title-short") field.ShortTitle)
    ∷ []

abbrev pub host_publisher : MemberTable
host_publisher =
    (codes "publisher", always field.PublisherName)
    ∷ (codes "publisher-place", always field.PublisherPlace)
    ∷ host_title

abbrev pub host_volume : MemberTable
host_volume = (codes "volume", always (field.Number number.Volume)) ∷ host_title

abbrev pub host_figure : MemberTable
host_figure = (codes "volume", always (field.Number number.Volume)) ∷ host_publisher

abbrev pub host_issue : MemberTable
host_issue =
    (codes "issue", always (field.Number number.Issue))
    ∷ (codes "ISSN", always (field.Serial serial.Issn))
    ∷ host_figure

abbrev pub host_newspaper : MemberTable
host_newspaper =
    (codes "edition", always (field.Number number.Edition))
    ∷ (codes "ISSN", always (field.Serial serial.Issn))
    ∷ (codes "publisher-place", always (field.Text text.Location))
    ∷ host_title

abbrev pub host_proceedings : MemberTable
host_proceedings =
    (codes "editor", always field.Editors)
    ∷ (codes "ISBN", always (field.Serial serial.Isbn))
    ∷ host_issue

abbrev pub host_reference : MemberTable
host_reference =
    (codes "editor", always field.Editors)
    ∷ (codes "edition", always (field.Number number.Edition))
    ∷ (codes "ISBN", always (field.Serial serial.Isbn))
    ∷ host_figure

abbrev pub host_book : MemberTable
host_book = (codes "container-author", always field.Authors) ∷ host_reference

-- the members that a host takes
abbrev pub taken_by : Takes → MemberTable
taken_by takes.Title = host_title
taken_by takes.Volume = host_volume
taken_by takes.Figure = host_figure
taken_by takes.Issue = host_issue
taken_by takes.Newspaper = host_newspaper
taken_by takes.Proceedings = host_proceedings
taken_by takes.Book = host_book
taken_by takes.Reference = host_reference
taken_by takes.Archive = (codes "archive", always field.Title) ∷ []
taken_by takes.Publisher = (codes "publisher", always field.Title) ∷ []

-- ---- what goes to an event, a series and an original

abbrev pub event_title : MemberTable
event_title =
    (codes "event-title", always field.Title)
    ∷ (codes "event", unless (codes "event-title") field.Title)
    ∷ []

abbrev pub conference_table : MemberTable
conference_table =
    (codes "event-place", always (field.Text text.Location))
    ∷ (codes "event-date", always field.Date)
    ∷ event_title

-- an exhibition has a title alone
abbrev pub venue_table : EntryType → MemberTable
venue_table Exhibition = event_title
venue_table _ = conference_table

abbrev pub original_table : MemberTable
original_table =
    (codes "original-date", always field.Date)
    ∷ (codes "original-title", always field.Title)
    ∷ (codes "original-publisher", always field.PublisherName)
    ∷ []

abbrev pub series_table : MemberTable
series_table =
    (codes "collection-title", always field.Title)
    ∷ (codes "collection-number", always (field.Number number.Volume))
    ∷ (codes "collection-editor", always field.Editors)
    ∷ []

-- ---- the place of a member

-- what is chosen at a level
abbrev pub at_level : Level → Option Choice → Option Place
at_level l choice = option_map (λ c. record { level = l; choice = c }) choice

-- the first place, and where there is none the second
abbrev pub or_else : Option Place → Option Place → Option Place
or_else None second = second
or_else (Some p) second = Some p

abbrev pub host_place : Option Host → List ℕ → Json → Option Place
host_place None name item = None
host_place (Some host) name item =
    at_level (level.Host host.entry) (choice_in (taken_by host.takes) name item)

abbrev pub venue_place : Option EntryType → List ℕ → Json → Option Place
venue_place None name item = None
venue_place (Some venue) name item =
    at_level (level.Venue venue) (choice_in (venue_table venue) name item)

abbrev pub own_place : Own → List ℕ → Json → Option Place
own_place rule name item =
    or_else (at_level level.Own (choice_in (exceptions rule) name item))
    (or_else (at_level level.Series (choice_in series_table name item))
    (or_else (at_level level.Original (choice_in original_table name item))
    (at_level level.Own (choice_in own_table name item))))

-- A member goes to what the item appears in where that takes it, otherwise to the event where that
-- does, and otherwise to the item itself, its series or its original.
abbrev pub place_of : Kind → List ℕ → Json → Option Place
place_of kind name item =
    or_else (host_place kind.host name item)
    (or_else (venue_place kind.venue name item) (own_place kind.own name item))

-- ---- a member in whose place the item has another

-- what it is counted under: its name, and that of the one that is preferred
abbrev pub beside_table : List (List ℕ × List ℕ)
beside_table =
    (codes "annote", codes "annote beside note")
    ∷ (codes "archive_location", codes "archive_location beside call-number")
    ∷ (codes "authority", codes "authority beside publisher")
    ∷ (codes "container-title", codes "container-title beside title")
    ∷ (codes "event", codes "event beside event-title")
    ∷ (codes "event-place", codes "event-place beside publisher-place")
    ∷ (codes "journalAbbreviation", codes "journalAbbreviation beside container-title-short")
    ∷ (codes "medium", codes "medium beside genre")
    ∷ (codes "number", codes "number beside issue")
    ∷ (codes "shortTitle", codes "shortTitle beside title-short")
    ∷ []

abbrev pub beside : List ℕ → Json → List ℕ
beside name item =
    if bytes_eq name (codes "archive_location") && is_at_arxiv item then
    codes "archive_location beside number"
    else unwrap_or (lookup (bytes_eq name) beside_table) name
