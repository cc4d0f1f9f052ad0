-- The table of publishers, organizations and places.
use Rattle.std.specs.Prelude.{ℕ, ◌++◌, ◌||◌, Bool, List, [], ◌∷◌, Option, None, Some, is_some, option_and_then, option_map, codes, if◌then◌else◌}
use Rattle.std.specs.Option.{option_or}
use Rattle.haya_text.specs.Chunks.{Chunk}
use Rattle.haya_text.specs.Texts.{without_short}
use Rattle.haya_values.specs.Publisher.{PublisherView}
use Rattle.haya_bibtex_fields.specs.Addresses.{address_in}
use Rattle.haya_bibtex_fields.specs.FieldTexts.{formatted_in, unknown_of}
use Rattle.haya_bibtex_inherited.specs.Entries.{FieldBytes, has_field, text_of}
use Rattle.haya_bibtex_entries.specs.Drafts.{RowView}
use Rattle.haya_bibtex_entries.specs.Kinds.{host_takes, takes_location, takes_publisher}
use Rattle.haya_bibtex_entries.specs.Rows.{commands, host_level, row, text_row}
use Rattle.haya_bibtex_entries.specs.Values.{publisher_value}
use Rattle.haya_bibtex_entries.specs.declared.draft.Level.{Level}
use Rattle.haya_bibtex_entries.specs.declared.draft.Level.TheVariants as level
use Rattle.haya_bibtex_entries.specs.declared.kinds.Host.{Host}
use Rattle.haya_bibtex_entries.specs.declared.kinds.Kind.{Kind}
use Rattle.haya_bibtex_entries.specs.declared.kinds.PublisherRule.{PublisherRule}
use Rattle.haya_bibtex_entries.specs.declared.kinds.PublisherRule.TheVariants.{Institution, Patent, Usual}
use Rattle.haya_bibtex_entries.specs.declared.values.TextField.TheVariants as texts

-- ---- how a work was published, if no publisher is named: at an address, or in other words

abbrev pub address_unless : Bool → Option (List ℕ) → Option (List ℕ)
address_unless has_url None = None
address_unless has_url (Some text) = if has_url then None else address_in text

abbrev pub published_at : List FieldBytes → Option (List ℕ)
published_at fs =
    address_unless (has_field fs (codes "url")) (text_of fs (codes "howpublished"))

abbrev pub published_by : List FieldBytes → Option (List ℕ)
published_by fs =
    if is_some (published_at fs) then None else text_of fs (codes "howpublished")

-- ---- texts

abbrev pub publisher_text : List FieldBytes → Option (List ℕ)
publisher_text fs = option_or (text_of fs (codes "publisher")) (published_by fs)

abbrev pub place_text : List FieldBytes → Option (List ℕ)
place_text fs = option_or (text_of fs (codes "location")) (text_of fs (codes "address"))

abbrev pub organization_text : List FieldBytes → Option (List ℕ)
organization_text fs =
    option_or (text_of fs (codes "institution"))
    (option_or (text_of fs (codes "school")) (text_of fs (codes "organization")))

-- the publisher of a thesis or a report is an organization, where no other is named
abbrev pub name_by : PublisherRule → List FieldBytes → Option (List ℕ)
name_by Usual fs = publisher_text fs
name_by Institution fs = None
name_by Patent fs = publisher_text fs

abbrev pub organization_by : PublisherRule → List FieldBytes → Option (List ℕ)
organization_by Usual fs = organization_text fs
organization_by Institution fs = option_or (organization_text fs) (publisher_text fs)
organization_by Patent fs = organization_text fs

-- the place is that of the publisher, of the newspaper, or of the entry
abbrev pub publisher_place : PublisherRule → Bool → List FieldBytes → Option (List ℕ)
publisher_place Usual of_host fs = if of_host then None else place_text fs
publisher_place Institution of_host fs = None
publisher_place Patent of_host fs = None

abbrev pub own_place : PublisherRule → List FieldBytes → Option (List ℕ)
own_place Usual fs = None
own_place Institution fs = place_text fs
own_place Patent fs = place_text fs

-- the venue is the conference's place; without a conference that of the entry, if it has no other
abbrev pub own_venue : Bool → List FieldBytes → Option (List ℕ)
own_venue is_given fs = if is_given then None else text_of fs (codes "venue")

abbrev pub own_location : Kind → List FieldBytes → Option (List ℕ)
own_location k fs = option_or (own_place k.publisher fs) (own_venue k.is_given fs)

-- ---- rows

-- a publisher, if it has a name or a place
abbrev pub publisher_of : Option (List Chunk) → Option (List Chunk) → Option PublisherView
publisher_of name place =
    if is_some name || is_some place then
    Some (record {
      name = option_map without_short name;
      location = option_map without_short place;
    })
    else None

abbrev pub publisher_row : Level → Option (List ℕ) → Option (List ℕ) → RowView
publisher_row l name place =
    row l
    (option_map (λ p. publisher_value p)
    (publisher_of (option_and_then formatted_in name) (option_and_then formatted_in place)))
    (commands (unknown_of name ++ unknown_of place))

abbrev pub kind_publisher_row : Kind → List FieldBytes → RowView
kind_publisher_row k fs =
    publisher_row (host_level takes_publisher k) (name_by k.publisher fs)
    (publisher_place k.publisher (host_takes takes_location k) fs)

abbrev pub host_location_row : Option Host → List FieldBytes → Option RowView
host_location_row None fs = None
host_location_row (Some h) fs =
    if takes_location h.takes then
    option_map (text_row (level.Host h.entry) texts.Location) (place_text fs)
    else None

abbrev pub conference_venue_row : Bool → List FieldBytes → Option RowView
conference_venue_row is_given fs =
    if is_given then option_map (text_row level.Conference texts.Location) (text_of fs (codes "venue"))
    else None

abbrev pub original_publisher_row : List FieldBytes → RowView
original_publisher_row fs =
    publisher_row level.Original (text_of fs (codes "origpublisher"))
    (text_of fs (codes "origlocation"))

abbrev pub publisher_rows : Kind → List FieldBytes → List (Option RowView)
publisher_rows k fs =
    Some (kind_publisher_row k fs)
    ∷ host_location_row k.host fs
    ∷ option_map (text_row level.Own texts.Location) (own_location k fs)
    ∷ option_map (text_row level.Own texts.Organization) (organization_by k.publisher fs)
    ∷ conference_venue_row k.is_given fs
    ∷ Some (original_publisher_row fs)
    ∷ []
