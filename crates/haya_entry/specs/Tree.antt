-- An entry by value: a tree of plain data.
use Rattle.std.specs.Prelude.{◌≡◌, ℕ, ◌+◌, List, [], ◌∷◌, map, Option, None, Some, option_and_then, option_map, slice_get, string_bytes}
use Rattle.haya_numbers.specs.Numeric.{NumericView, numeric_view}
use Rattle.haya_numbers.specs.Pages.{PartView, parts}
use Rattle.haya_people.specs.Person.{PersonView, person_view}
use Rattle.haya_people.specs.Roles.{RolesView, roles_view}
use Rattle.haya_text.specs.Texts.{TextView, text_view}
use Rattle.haya_time.specs.declared.date.Date.{Date}
use Rattle.haya_time.specs.declared.duration.Duration.{Duration}
use Rattle.haya_time.specs.declared.duration.range.DurationRange.{DurationRange}
use Rattle.haya_values.specs.MaybeTyped.{TypedOrText, maybe_typed_view}
use Rattle.haya_values.specs.Publisher.{PublisherView, publisher_view}
use Rattle.haya_values.specs.Url.{UrlView, url_view}
use Rattle.haya_entry.specs.declared.entry.Entry.{Entry}
use Rattle.haya_entry.specs.declared.entry.Entry.TheOpen.{Entry-F}
use Rattle.haya_entry.specs.declared.entry.Entry.TheFolds.{fold-Entry}
use Rattle.haya_entry.specs.declared.types.EntryType.{EntryType}
use Rattle.haya_entry.specs.SerialNumber.{Serials, serial_view, serial_text, with_serial}

-- all of an entry but its parents
-- A field that is added stands here by its name and the type of its value, and below in
-- `fields_of` and `no_fields`; as a `FieldName` in `specs/FieldName.antt`, and in `has_field`; with
-- its test in the proof that `==` tells values apart; and in the code in the struct, `new`, the
-- enum `FieldName`, `has_field`, its getter and setter, and the copy. Crates above name it too:
-- `docs/architecture.md` has the list.
pub record Fields : Type 0 where
  pub key : List ℕ
  pub entry_type : EntryType
  pub title : Option TextView
  pub location : Option TextView
  pub organization : Option TextView
  pub archive : Option TextView
  pub archive_location : Option TextView
  pub call_number : Option TextView
  pub note : Option TextView
  pub abstract_ : Option TextView
  pub genre : Option TextView
  pub authors : Option (List PersonView)
  pub editors : Option (List PersonView)
  pub affiliated : Option (List RolesView)
  pub date : Option Date
  pub publisher : Option PublisherView
  pub url : Option UrlView
  pub issue : Option (TypedOrText NumericView)
  pub chapter : Option (TypedOrText NumericView)
  pub volume : Option (TypedOrText NumericView)
  pub edition : Option (TypedOrText NumericView)
  pub volume_total : Option NumericView
  pub page_total : Option NumericView
  pub page_range : Option (TypedOrText (List PartView))
  pub time_range : Option (TypedOrText DurationRange)
  pub runtime : Option (TypedOrText Duration)
  pub serial_number : Option Serials
  pub language : Option (List ℕ)

mutual
  -- fields, and parents in order
  pub data Tree : Type 0 where
    node : Fields → Trees → Tree

  pub data Trees : Type 0 where
    no_trees : Trees
    one_more : Tree → Trees → Trees

-- trees in order, from a list and as one
abbrev pub trees : List Tree → Trees
trees [] = no_trees
trees (t ∷ ts) = one_more t (trees ts)

abbrev pub tree_list : Trees → List Tree
tree_list no_trees = []
tree_list (one_more t ts) = t ∷ tree_list ts

-- all of an entry but its parents, and its parents in order
abbrev pub fields : Tree → Fields
fields (node f ps) = f

abbrev pub parents : Tree → List Tree
parents (node f ps) = tree_list ps

-- how many entries the tree has
abbrev mutual
  pub size : Tree → ℕ
  size (node f ps) = 1 + sizes ps

  pub sizes : Trees → ℕ
  sizes no_trees = 0
  sizes (one_more t ts) = size t + sizes ts

-- the entry at a path: a list of places, each among the parents of the entry before
abbrev pub at : Tree → List ℕ → Option Tree
at t [] = Some t
at t (i ∷ path) = option_and_then (λ p. at p path) (slice_get (parents t) i)

-- the same from a list of parents
abbrev pub at_list : List Tree → List ℕ → Option Tree
at_list ts [] = None
at_list ts (i ∷ path) = option_and_then (λ p. at p path) (slice_get ts i)

-- the fields of an entry by value, whatever its parents are
abbrev pub fields_of : {P : Type 0} → Entry-F P → Fields
fields_of e = record {
  key = string_bytes e.key;
  entry_type = e.entry_type;
  title = option_map text_view e.title;
  location = option_map text_view e.location;
  organization = option_map text_view e.organization;
  archive = option_map text_view e.archive;
  archive_location = option_map text_view e.archive_location;
  call_number = option_map text_view e.call_number;
  note = option_map text_view e.note;
  abstract_ = option_map text_view e.abstract_;
  genre = option_map text_view e.genre;
  authors = option_map (λ v. map person_view v.items) e.authors;
  editors = option_map (λ v. map person_view v.items) e.editors;
  affiliated = option_map (λ v. map roles_view v.items) e.affiliated;
  date = e.date;
  publisher = option_map publisher_view e.publisher;
  url = option_map url_view e.url;
  issue = option_map (maybe_typed_view numeric_view) e.issue;
  chapter = option_map (maybe_typed_view numeric_view) e.chapter;
  volume = option_map (maybe_typed_view numeric_view) e.volume;
  edition = option_map (maybe_typed_view numeric_view) e.edition;
  volume_total = option_map numeric_view e.volume_total;
  page_total = option_map numeric_view e.page_total;
  page_range = option_map (maybe_typed_view parts) e.page_range;
  time_range = option_map (maybe_typed_view (λ range. range)) e.time_range;
  runtime = option_map (maybe_typed_view (λ duration. duration)) e.runtime;
  serial_number = option_map serial_view e.serial_number;
  language = option_map string_bytes e.language;
}

-- the value of an entry whose parents have these values
abbrev pub view_step : Entry-F Tree → Tree
view_step e = node (fields_of e) (trees e.parents.items)

-- the value of an entry
abbrev pub view : Entry → Tree
view = fold-Entry Tree view_step

-- the same parents under changed fields
abbrev pub with_fields : (Fields → Fields) → Tree → Tree
with_fields change (node f ps) = node (change f) ps

-- the entry has changed in these fields alone
abbrev pub Sets : Entry → Entry → (Fields → Fields) → Type 0
Sets old new change = view new ≡ with_fields change (view old)

-- the same fields over other parents
abbrev pub with_parents : List Tree → Tree → Tree
with_parents ts (node f ps) = node f (trees ts)

-- the serial number under a key
abbrev pub keyed_serial_number : List ℕ → Tree → Option (List ℕ)
keyed_serial_number key t = serial_text key (fields t).serial_number

-- the entry with this serial number under the key, in the place of the one that was there
abbrev pub with_keyed_serial_number : List ℕ → List ℕ → Tree → Tree
with_keyed_serial_number key text =
    with_fields (λ f. record f { serial_number = Some (with_serial key text f.serial_number) })

-- the same of an entry that isn't a tree yet
abbrev pub serial_of : List ℕ → Entry → Option (List ℕ)
serial_of key entry = keyed_serial_number key (view entry)

-- the entry has changed in this serial number alone
abbrev pub SetsSerial : Entry → Entry → List ℕ → List ℕ → Type 0
SetsSerial old new key text = view new ≡ with_keyed_serial_number key text (view old)

-- the fields of an entry with a key and a type alone
abbrev pub no_fields : List ℕ → EntryType → Fields
no_fields key kind = record {
  key = key;
  entry_type = kind;
  title = None;
  location = None;
  organization = None;
  archive = None;
  archive_location = None;
  call_number = None;
  note = None;
  abstract_ = None;
  genre = None;
  authors = None;
  editors = None;
  affiliated = None;
  date = None;
  publisher = None;
  url = None;
  issue = None;
  chapter = None;
  volume = None;
  edition = None;
  volume_total = None;
  page_total = None;
  page_range = None;
  time_range = None;
  runtime = None;
  serial_number = None;
  language = None;
}

-- an entry with a key and a type alone
abbrev pub new_entry : List ℕ → EntryType → Tree
new_entry key kind = node (no_fields key kind) no_trees

-- these fields with the people of others
abbrev pub with_people_of : Fields → Fields → Fields
with_people_of from f =
    record f { authors = from.authors; editors = from.editors; affiliated = from.affiliated }

-- these fields with all that others have but their key, type and people
abbrev pub with_rest_of : Fields → Fields → Fields
with_rest_of from f = record (with_people_of f from) { key = f.key; entry_type = f.entry_type }
