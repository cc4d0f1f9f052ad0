-- Each member of an item is read, or told.
use Rattle.std.specs.Prelude.{◌≡◌, ◌⊎◌, ℕ, List, [], Option, None, Some, is_some, option_map, slice_get, unwrap_or, codes, IsSomeAnd, IsTrue, ⊤}
use Rattle.std.specs.List.{Contains}
use Rattle.json.specs.Json as json
use Rattle.json.specs.Json.{Json, Members}
use Rattle.haya_text.specs.Chunks.{Chunk}
use Rattle.haya_text.specs.Texts.{TextView}
use Rattle.haya_people.specs.Person.{PersonView}
use Rattle.haya_people.specs.Roles.{RoleView}
use Rattle.haya_values.specs.MaybeTyped.{Typed}
use Rattle.haya_values.specs.Url.{UrlView}
use Rattle.haya_entry.specs.Lookups.{affiliated_lists}
use Rattle.haya_entry.specs.Tree.{Fields, Tree, fields, keyed_serial_number}
use Rattle.haya_json.specs.Notes.{LostView, lost_behind}
use Rattle.haya_json.specs.Parts.{text_in}
use Rattle.haya_json.specs.Refusal.{to_member}
use Rattle.haya_csl.specs.Dates.{date_said}
use Rattle.haya_csl.specs.Fields.{count_said, location_of, name_of_publisher, number_said, pages_said, runtime_said, said_at, visit_date}
use Rattle.haya_csl.specs.Items.{DraftView, is_place_again, members_set, new_draft, only_lost, role_of}
use Rattle.haya_csl.specs.Kinds.{is_empty, kind_named, kind_of}
use Rattle.haya_csl.specs.Markup.{markup_read}
use Rattle.haya_csl.specs.Members.{place_of}
use Rattle.haya_csl.specs.Names.{names_said}
use Rattle.haya_csl.specs.Said.{SaidView}
use Rattle.haya_csl.specs.Serials.{archive_number_said, bare, serial_said, serial_text}
use Rattle.haya_csl.specs.Texts.{format_said, markup_said, plain_said, said_as}
use Rattle.haya_csl.specs.declared.fields.Field.{Field}
use Rattle.haya_csl.specs.declared.fields.Field.TheVariants as field
use Rattle.haya_csl.specs.declared.fields.NumberField.{NumberField}
use Rattle.haya_csl.specs.declared.fields.NumberField.TheVariants as numbers
use Rattle.haya_csl.specs.declared.fields.TextField.{TextField}
use Rattle.haya_csl.specs.declared.fields.TextField.TheVariants as texts
use Rattle.haya_csl.specs.declared.item_key.ItemKey.{ItemKey}
use Rattle.haya_csl.specs.declared.item_key.ItemKey.TheVariants.{CitationKey}
use Rattle.haya_csl.specs.declared.members.Choice.{Choice}
use Rattle.haya_csl.specs.declared.members.Choice.TheVariants.{Put, Pass}
use Rattle.haya_csl.specs.declared.members.Level.{Level}
use Rattle.haya_csl.specs.declared.members.Level.TheVariants as level
use Rattle.haya_csl.specs.declared.members.Place.{Place}

-- ---- what an entry has

-- a value says something, and this field of the entry is what it says
abbrev pub Has : {V : Type 0} → (Fields → Option V) → SaidView V → Tree → Type 0
Has field said t = IsSomeAnd said.value (λ v. field (fields t) ≡ Some v)

abbrev pub long_title : Fields → Option (List Chunk)
long_title f = option_map (λ t. t.value) f.title

-- the short form of the title, which is the title itself where there is no other
abbrev pub short_title : Fields → Option (List Chunk)
short_title f = option_map (λ t. unwrap_or t.short t.value) f.title

abbrev pub text_of : TextField → Fields → Option TextView
text_of texts.Location f = f.location
text_of texts.Organization f = f.organization
text_of texts.Archive f = f.archive
text_of texts.ArchiveLocation f = f.archive_location
text_of texts.CallNumber f = f.call_number
text_of texts.Note f = f.note
text_of texts.Abstract f = f.abstract_
text_of texts.Genre f = f.genre

abbrev pub HasNumber : NumberField → Json → Tree → Type 0
HasNumber numbers.Volume j = Has (λ f. f.volume) (number_said j)
HasNumber numbers.Issue j = Has (λ f. f.issue) (number_said j)
HasNumber numbers.Edition j = Has (λ f. f.edition) (number_said j)
HasNumber numbers.Chapter j = Has (λ f. f.chapter) (number_said j)
HasNumber numbers.VolumeTotal j = Has (λ f. f.volume_total) (count_said j)
HasNumber numbers.PageTotal j = Has (λ f. f.page_total) (count_said j)
HasNumber numbers.Pages j = Has (λ f. f.page_range) (pages_said j)
HasNumber numbers.Runtime j = Has (λ f. f.runtime) (said_as Typed (runtime_said j))

-- the number is there under its key
abbrev pub HasSerial : SaidView (List ℕ × List ℕ) → Tree → Type 0
HasSerial said t = IsSomeAnd said.value (λ n. keyed_serial_number n.0 t ≡ Some n.1)

-- the persons are there with this role
abbrev pub HasPersons : RoleView → SaidView (List PersonView) → Tree → Type 0
HasPersons role said t =
    IsSomeAnd said.value (λ names.
    Contains (affiliated_lists t) (record { names = names; role = role }))

abbrev pub dated_url : Json → List ℕ → UrlView
dated_url item v = record { value = v; visit_date = visit_date item }

-- the field is what the value says, under a member of this name
abbrev pub HasField : Field → List ℕ → Json → Json → Tree → Type 0
HasField field.Title name item j = Has long_title (markup_said j)
HasField field.ShortTitle name item j = Has short_title (markup_said j)
HasField field.Authors name item j = Has (λ f. f.authors) (names_said name j)
HasField field.Editors name item j = Has (λ f. f.editors) (names_said name j)
HasField field.Date name item j = Has (λ f. f.date) (date_said name j)
HasField field.VisitDate name item j = λ t. ⊥
HasField field.Url name item j = Has (λ f. f.url) (said_as (dated_url item) (plain_said j))
HasField field.PublisherName name item j =
    Has (λ f. name_of_publisher f.publisher) (format_said j)
HasField field.PublisherPlace name item j = Has (λ f. location_of f.publisher) (format_said j)
HasField field.Language name item j = Has (λ f. f.language) (plain_said j)
HasField (field.Text f) name item j = Has (text_of f) (format_said j)
HasField field.ArchiveNumber name item j = Has (λ f. f.call_number) (archive_number_said j)
HasField (field.Number f) name item j = HasNumber f j
HasField (field.Serial f) name item j = HasSerial (serial_said f j)

-- ---- values without a field of their own

-- a text is empty, or nothing is left of it
abbrev pub LeavesNone : {A : Type 0} → (List ℕ → List A) → Json → Type 0
LeavesNone left j = IsSomeAnd (text_in j) (λ text. (text ≡ []) ⊎ (left text ≡ []))

-- nothing is said, and nothing is lost
abbrev pub SaysNothing : {V : Type 0} → SaidView V → Type 0
SaysNothing said = (said.value ≡ None) × (said.lost ≡ [])

-- names are a list, an object or a text
abbrev pub IsNames : Json → Type 0
IsNames (json.array js) = ⊤
IsNames (json.object ms) = ⊤
IsNames (json.string text) = ⊤
IsNames _ = ⊥

abbrev pub SaysNoNames : List ℕ → Json → Type 0
SaysNoNames name j = SaysNothing (names_said name j) × IsNames j

abbrev pub IsObject : Json → Type 0
IsObject (json.object ms) = ⊤
IsObject _ = ⊥

-- an object that says no date, or an empty text
abbrev pub SaysNoDate : List ℕ → Json → Type 0
SaysNoDate name j = SaysNothing (date_said name j) × (IsObject j ⊎ LeavesNone (λ text. text) j)

-- the date of a visit is kept with the address that the item has
abbrev pub IsKeptWithUrl : Json → Type 0
IsKeptWithUrl item = IsTrue (is_some (said_at (codes "URL") plain_said item))

-- A value adds nothing of its own: a text that is empty, or of markup alone, or of what is in front
-- of a serial number; names or a date of which nothing is said; the date of a visit beside an
-- address.
abbrev pub AddsNothing : Field → List ℕ → Json → Json → Type 0
AddsNothing field.Title name item j = LeavesNone markup_read j
AddsNothing field.ShortTitle name item j = LeavesNone markup_read j
AddsNothing field.Authors name item j = SaysNoNames name j
AddsNothing field.Editors name item j = SaysNoNames name j
AddsNothing field.Date name item j = SaysNoDate name j
AddsNothing field.VisitDate name item j = SaysNoDate name j ⊎ IsKeptWithUrl item
AddsNothing field.PublisherName name item j = LeavesNone markup_read j
AddsNothing field.PublisherPlace name item j = LeavesNone markup_read j
AddsNothing (field.Text f) name item j = LeavesNone markup_read j
AddsNothing field.ArchiveNumber name item j = LeavesNone (λ text. markup_read (bare text)) j
AddsNothing (field.Serial s) name item j = LeavesNone (serial_text s) j
AddsNothing _ name item j = LeavesNone (λ text. text) j

-- ---- one member

-- what a member says of the item itself: its key, its type, or the place of its publisher again
abbrev pub IsOfItem : ItemKey → List ℕ → Json → Json → Type 0
IsOfItem by name item j =
    (name ≡ codes "id")
    ⊎ (((name ≡ codes "citation-key") × ((by ≡ CitationKey) × (IsSomeAnd (text_in j) (λ key. ⊤))))
    ⊎ (((name ≡ codes "type")
    × IsSomeAnd (text_in j) (λ type. IsTrue (is_some (kind_named type item))))
    ⊎ IsTrue (is_place_again name item j)))

-- the item's entry, or the parent of this level, if it is made
abbrev pub entry_at : Level → DraftView → Option Tree
entry_at level.Own d = Some d.own
entry_at (level.Host kind) d = slice_get d.host 0
entry_at (level.Venue kind) d = slice_get d.venue 0
entry_at level.Series d = slice_get d.series 0
entry_at level.Original d = slice_get d.original 0

-- A value adds nothing, or the entry that it goes to has what it says.
abbrev pub IsPut : Level → Choice → List ℕ → Json → Json → DraftView → Type 0
IsPut l Pass name item j d = ⊥
IsPut l (Put field) name item j d =
    AddsNothing field name item j ⊎ IsSomeAnd (entry_at l d) (HasField field name item j)

-- the same by the role of the persons that a member names, and by its place
abbrev pub IsRead : Option RoleView → Option Place → List ℕ → Json → Json → DraftView → Type 0
IsRead (Some role) place name item j d =
    SaysNoNames name j ⊎ HasPersons role (names_said name j) d.own
IsRead None None name item j d = ⊥
IsRead None (Some place) name item j d = IsPut place.level place.choice name item j d

-- something is lost, and told under the name of the member
abbrev pub IsTold : List ℕ → List LostView → Type 0
IsTold name lost = (x : LostView) × Contains lost (lost_behind (to_member name) x)

-- A member is as if it weren't there, or is read into the entries after it, or is told.
abbrev pub IsReadOrTold : ItemKey → List ℕ → Json → Json → DraftView → List LostView → Type 0
IsReadOrTold by name item j after lost =
    IsTrue (is_empty j)
    ⊎ (IsOfItem by name item j
    ⊎ (IsRead (role_of name) (place_of (kind_of item) name item) name item j after
    ⊎ IsTold name lost))

-- ---- the members of an item

-- these members, and then those
abbrev pub joined : Members → Members → Members
joined json.no_members ms = ms
joined (json.member k j more) ms = json.member k j (joined more ms)

-- the entries of an item after the first of its members
abbrev pub entries_after : ItemKey → List ℕ → Json → Members → DraftView
entries_after by key item first =
    let kind = kind_of item in
    (members_set by kind key item first (only_lost [] (new_draft key kind.entry))).after
