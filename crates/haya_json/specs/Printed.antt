-- A library as JSON, in hayagriva's file format.
use Rattle.std.specs.Prelude.{ℕ, ℤ, pos, negsuc, Bool, true, false, ◌&&◌, not, nat_eq, List, [], ◌∷◌, Option, None, Some, is_none, is_some, codes, if◌then◌else◌}
use Rattle.std.specs.Fmt.{signed_decimal}
use Rattle.std.specs.Option.{option_eq}
use Rattle.std.specs.Result.{result_ok}
use Rattle.std.specs.Ordering.{int_eq}
use Rattle.std.specs.Str.{bytes_eq, chars}
use Rattle.json.specs.Json as json
use Rattle.json.specs.Json.{Json, Items, Members}
use Rattle.haya_text.specs.Chunks.{Chunk}
use Rattle.haya_text.specs.Printing.{to_serialized}
use Rattle.haya_text.specs.Texts.{TextView}
use Rattle.haya_time.specs.DatePrinted.{date_text}
use Rattle.haya_time.specs.DateReading.{date_read}
use Rattle.haya_time.specs.DurationPrint.{duration_text, range_text}
use Rattle.haya_time.specs.declared.date.Date.{Date}
use Rattle.haya_time.specs.declared.date.Season.{Season}
use Rattle.haya_time.specs.declared.date.Season.TheVariants.{Spring, Summer, Autumn, Winter}
use Rattle.haya_numbers.specs.Numeric.{NumericView, single_number}
use Rattle.haya_numbers.specs.NumericRoundTrip.{round_trip_text}
use Rattle.haya_numbers.specs.Pages.{PartView, SinglePage}
use Rattle.haya_numbers.specs.PagesRoundTrip as pages
use Rattle.haya_people.specs.Person.{PersonView}
use Rattle.haya_people.specs.PersonText.{person_text}
use Rattle.haya_people.specs.Reading.{person_read}
use Rattle.haya_people.specs.Roles.{RolesView, role_name}
use Rattle.haya_values.specs.MaybeTyped.{TypedOrText, Typed, Text}
use Rattle.haya_values.specs.Publisher.{PublisherView}
use Rattle.haya_values.specs.Url.{UrlView}
use Rattle.haya_entry.specs.SerialNumber.{Serials}
use Rattle.haya_entry.specs.EntryType.{type_name, in_lower_case}
use Rattle.haya_entry.specs.Tree.{Tree, Trees, Fields, node, no_trees, one_more, fields}
use Rattle.haya_entry.specs.declared.types.EntryType.{EntryType}

-- a member, where there is a value, and then the others
abbrev pub also : {V : Type 0} → List ℕ → (V → Json) → Option V → Members → Members
also name print None ms = ms
also name print (Some v) ms = json.member name (print v) ms

-- a member that is true, where it is, and then the others
abbrev pub also_true : List ℕ → Bool → Members → Members
also_true name b ms = if b then json.member name (json.boolean true) ms else ms

abbrev pub array_of : {V : Type 0} → (V → Json) → List V → Items
array_of print [] = json.no_items
array_of print (v ∷ vs) = json.item (print v) (array_of print vs)

-- one value alone, and an array where there isn't exactly one
abbrev pub one_or_many_json : {V : Type 0} → (V → Json) → List V → Json
one_or_many_json print (v ∷ []) = print v
one_or_many_json print [] = json.array json.no_items
one_or_many_json print (v ∷ w ∷ vs) = json.array (array_of print (v ∷ w ∷ vs))

-- ---- texts

abbrev pub chunks_json : List Chunk → Json
chunks_json cs = json.string (to_serialized cs)

-- a text alone, or with its short form in an object
abbrev pub forms_json : List Chunk → Option (List Chunk) → Json
forms_json value None = chunks_json value
forms_json value (Some short) =
    json.object
    (json.member (codes "value") (chunks_json value)
    (json.member (codes "short") (chunks_json short) json.no_members))

unfoldable pub format_json : TextView → Json
format_json t = forms_json t.value t.short

-- ---- persons

-- both are true, or neither is
abbrev pub same_truth : Bool → Bool → Bool
same_truth a b = if a then b else not b

abbrev pub same_person : PersonView → PersonView → Bool
same_person p q =
    bytes_eq p.name q.name && (option_eq bytes_eq p.given_name q.given_name
    && (option_eq bytes_eq p.prefix q.prefix && (option_eq bytes_eq p.suffix q.suffix
    && (same_truth p.comma_suffix q.comma_suffix && option_eq bytes_eq p.alias q.alias))))

-- whether a text reads as the person
abbrev pub reads_as_person : List ℕ → PersonView → Bool
reads_as_person text p = by (result_ok (person_read text))
  where
    by : Option PersonView → Bool
    by None = false
    by (Some q) = same_person q p

abbrev pub person_parts : PersonView → Json
person_parts p =
    json.object
    (json.member (codes "name") (json.string p.name)
    (also (codes "given-name") json.string p.given_name
    (also (codes "prefix") json.string p.prefix
    (also (codes "suffix") json.string p.suffix
    (also_true (codes "comma-suffix") p.comma_suffix
    (also (codes "alias") json.string p.alias json.no_members))))))

-- a text where that reads as the person, otherwise an object of the parts of the name
unfoldable pub person_json : PersonView → Json
person_json p =
    if reads_as_person (person_text p) p then json.string (person_text p) else person_parts p

unfoldable pub roles_json : RolesView → Json
roles_json r =
    json.object
    (json.member (codes "role") (json.string (role_name r.role))
    (json.member (codes "names") (one_or_many_json person_json r.names) json.no_members))

-- ---- dates

abbrev pub whole_json : ℤ → Json
whole_json n = json.number (signed_decimal n)

abbrev pub byte_json : ℕ → Json
byte_json n = whole_json (pos n)

abbrev pub season_number : Season → ℤ
season_number Spring = pos 1
season_number Summer = pos 2
season_number Autumn = pos 3
season_number Winter = pos 4

abbrev pub season_json : Season → Json
season_json s = whole_json (season_number s)

abbrev pub date_parts : Date → Json
date_parts d =
    json.object
    (json.member (codes "year") (whole_json d.year)
    (also (codes "month") byte_json d.month
    (also (codes "day") byte_json d.day
    (also_true (codes "approximate") d.approximate
    (also (codes "season") season_json d.season json.no_members)))))

-- whether the date tells its year alone
abbrev pub is_year : Date → Bool
is_year d = is_none d.month && (is_none d.day && (is_none d.season && not d.approximate))

-- whether two dates, of which none tells a season, are the same
abbrev pub same_date : Date → Date → Bool
same_date d e =
    int_eq d.year e.year && (option_eq nat_eq d.month e.month && (option_eq nat_eq d.day e.day
    && (same_truth d.approximate e.approximate && (is_none d.season && is_none e.season))))

-- whether a text reads as the date
abbrev pub reads_as_date : List ℕ → Date → Bool
reads_as_date text d = by (result_ok (date_read (chars text)))
  where
    by : Option Date → Bool
    by None = false
    by (Some e) = same_date e d

-- the year as a number where it is alone, a text where that reads as the date, or an object
unfoldable pub date_json : Date → Json
date_json d =
    if is_year d then whole_json d.year
    else if reads_as_date (date_text d) d then json.string (date_text d)
    else date_parts d

-- ---- publishers and addresses

abbrev pub publisher_parts : PublisherView → Json
publisher_parts p =
    json.object
    (also (codes "name") format_json p.name
    (also (codes "location") format_json p.location json.no_members))

abbrev pub lone_name : Option TextView → Option TextView → Option (List Chunk)
lone_name name (Some place) = None
lone_name None None = None
lone_name (Some name) None = if is_some name.short then None else Some name.value

-- the name where there is no place and no short form
abbrev pub name_alone : PublisherView → Option (List Chunk)
name_alone p = lone_name p.name p.location

-- the text of the name where that is all, otherwise an object
unfoldable pub publisher_json : PublisherView → Json
publisher_json p = by (name_alone p)
  where
    by : Option (List Chunk) → Json
    by None = publisher_parts p
    by (Some name) = chunks_json name

abbrev pub url_parts : List ℕ → Date → Json
url_parts value date =
    json.object
    (json.member (codes "value") (json.string value)
    (json.member (codes "date") (date_json date) json.no_members))

-- the address alone, or with the date of a visit
unfoldable pub url_json : UrlView → Json
url_json u = by u.visit_date
  where
    by : Option Date → Json
    by None = json.string u.value
    by (Some date) = url_parts u.value date

-- ---- numbers, pages and times

-- a number where it is one without affixes, otherwise the text from which it is read again
unfoldable pub number_json : NumericView → Json
number_json n = by (single_number n)
  where
    by : Option ℤ → Json
    by None = json.string (round_trip_text n)
    by (Some alone) = whole_json alone

unfoldable pub number_or_text_json : TypedOrText NumericView → Json
number_or_text_json (Typed n) = number_json n
number_or_text_json (Text text) = json.string text

-- the number below 0, which no text of pages reads as
abbrev pub below_zero : Option ℤ → Option ℤ
below_zero None = None
below_zero (Some (pos n)) = None
below_zero (Some (negsuc n)) = Some (negsuc n)

-- the number of one page alone that is below 0
abbrev pub page_below_zero : List PartView → Option ℤ
page_below_zero (SinglePage page ∷ []) = below_zero (single_number page)
page_below_zero _ = None

-- the text from which the pages are read again, or the number of a page below 0; or the text
unfoldable pub pages_json : TypedOrText (List PartView) → Json
pages_json (Text text) = json.string text
pages_json (Typed ps) = by (page_below_zero ps)
  where
    by : Option ℤ → Json
    by None = json.string (pages.round_trip_text ps)
    by (Some number) = whole_json number

-- a typed value as it is shown, or the text
abbrev pub typed_text : {V : Type 0} → (V → List ℕ) → TypedOrText V → List ℕ
typed_text show (Typed v) = show v
typed_text show (Text text) = text

unfoldable pub typed_json : {V : Type 0} → (V → List ℕ) → TypedOrText V → Json
typed_json show v = json.string (typed_text show v)

-- ---- serial numbers

abbrev pub serial_members : Serials → Members
serial_members [] = json.no_members
serial_members (s ∷ rest) = json.member s.0 (json.string s.1) (serial_members rest)

unfoldable pub serial_json : Serials → Json
serial_json s = json.object (serial_members s)

-- ---- entries

unfoldable pub type_json : EntryType → Json
type_json kind = json.string (in_lower_case (type_name kind))

-- the texts that are set, and then these members
abbrev pub text_members : Fields → Members → Members
text_members f ms =
    also (codes "title") format_json f.title
    (also (codes "location") format_json f.location
    (also (codes "organization") format_json f.organization
    (also (codes "archive") format_json f.archive
    (also (codes "archive-location") format_json f.archive_location
    (also (codes "call-number") format_json f.call_number
    (also (codes "note") format_json f.note
    (also (codes "abstract") format_json f.abstract_
    (also (codes "genre") format_json f.genre ms))))))))

-- the same of people, dates, publishers and addresses
abbrev pub people_members : Fields → Members → Members
people_members f ms =
    also (codes "author") (one_or_many_json person_json) f.authors
    (also (codes "editor") (one_or_many_json person_json) f.editors
    (also (codes "affiliated") (one_or_many_json roles_json) f.affiliated
    (also (codes "date") date_json f.date
    (also (codes "publisher") publisher_json f.publisher
    (also (codes "url") url_json f.url ms)))))

-- the same of numbers and times
abbrev pub number_members : Fields → Members → Members
number_members f ms =
    also (codes "issue") number_or_text_json f.issue
    (also (codes "chapter") number_or_text_json f.chapter
    (also (codes "volume") number_or_text_json f.volume
    (also (codes "edition") number_or_text_json f.edition
    (also (codes "volume-total") number_json f.volume_total
    (also (codes "page-total") number_json f.page_total
    (also (codes "page-range") pages_json f.page_range
    (also (codes "time-range") (typed_json range_text) f.time_range
    (also (codes "runtime") (typed_json duration_text) f.runtime ms))))))))

-- the same of serial numbers and the language
abbrev pub last_members : Fields → Members → Members
last_members f ms =
    also (codes "serial-number") serial_json f.serial_number
    (also (codes "language") json.string f.language ms)

-- the fields that are set, in the order of the struct, and then these members
abbrev pub field_members : Fields → Members → Members
field_members f ms = text_members f (people_members f (number_members f (last_members f ms)))

-- the key of an entry where it isn't that of the entry below it, which a library has none of
abbrev pub key_of_its_own : Option (List ℕ) → List ℕ → Option (List ℕ)
key_of_its_own None key = None
key_of_its_own (Some below) key = if bytes_eq below key then None else Some key

-- An entry: its type, its fields, and its parents, if it has any. A parent whose key isn't that of
-- the entry below it has a member `key` of its own.
abbrev mutual
  pub json_of : Option (List ℕ) → Tree → Json
  json_of below (node f ps) =
      json.object
      (json.member (codes "type") (type_json f.entry_type)
      (also (codes "key") json.string (key_of_its_own below f.key)
      (field_members f (parent_members f.key ps))))

  pub parent_members : List ℕ → Trees → Members
  parent_members key no_trees = json.no_members
  parent_members key (one_more t no_trees) =
      json.member (codes "parent") (json_of (Some key) t) json.no_members
  parent_members key (one_more t (one_more u us)) =
      json.member (codes "parent")
      (json.array (json.item (json_of (Some key) t) (item_list key (one_more u us))))
      json.no_members

  pub item_list : List ℕ → Trees → Items
  item_list key no_trees = json.no_items
  item_list key (one_more t ts) = json.item (json_of (Some key) t) (item_list key ts)

-- one parent alone, and an array where there isn't exactly one
abbrev pub parents_json : List ℕ → Trees → Json
parents_json key no_trees = json.array json.no_items
parents_json key (one_more t no_trees) = json_of (Some key) t
parents_json key (one_more t (one_more u us)) =
    json.array (json.item (json_of (Some key) t) (item_list key (one_more u us)))

-- a library: an object of its entries under their keys
abbrev pub library_members : List Tree → Members
library_members [] = json.no_members
library_members (t ∷ ts) = json.member (fields t).key (json_of None t) (library_members ts)

abbrev pub library_json : List Tree → Json
library_json ts = json.object (library_members ts)
