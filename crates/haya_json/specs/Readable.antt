-- Which values are read from what is printed of them, type by type.
use Rattle.std.specs.Prelude.{◌≡◌, ◌++◌, ℕ, ℤ, true, List, [], ◌∷◌, Option, None, Some, IfSome, nat_lt, option_map}
use Rattle.std.specs.Cmp.Lexicographic.{slice_cmp}
use Rattle.std.specs.List.{AllByRecursion}
use Rattle.std.specs.Ordering.{nat_cmp}
use Rattle.std.specs.Result.{result_ok}
use Rattle.std.specs.Str.{chars}
use Rattle.std.specs.declared.cmp.Ordering.TheVariants.{Greater}
use Rattle.haya_text.specs.Chunks.{Chunk}
use Rattle.haya_text.specs.Printing.{to_serialized}
use Rattle.haya_text.specs.Reading.{chunks_read}
use Rattle.haya_text.specs.Texts.{TextView}
use Rattle.haya_numbers.specs.Numeric.{NumericView, single_number}
use Rattle.haya_numbers.specs.NumericReading.{numeric_read}
use Rattle.haya_numbers.specs.NumericRoundTrip.{round_trip_text}
use Rattle.haya_numbers.specs.Pages.{PartView}
use Rattle.haya_numbers.specs.PagesReading.{pages_read}
use Rattle.haya_numbers.specs.PagesRoundTrip as pages
use Rattle.haya_people.specs.Roles.{RolesView, role_name, role_read, role_view}
use Rattle.haya_time.specs.DurationPrint.{duration_text, range_text}
use Rattle.haya_time.specs.DurationReading.{duration_read, range_read}
use Rattle.haya_time.specs.declared.date.Date.{Date}
use Rattle.haya_values.specs.MaybeTyped.{TypedOrText, Typed, Text}
use Rattle.haya_values.specs.Publisher.{PublisherView}
use Rattle.haya_values.specs.Url.{UrlView}
use Rattle.haya_entry.specs.SerialNumber.{Serials}
use Rattle.haya_entry.specs.Tree.{Tree, Trees, Fields, node, no_trees, one_more}
use Rattle.haya_json.specs.Printed.{page_below_zero}
use Rattle.haya_json.specs.Whole.{is_i32}

-- Chunks are read from their serialized text. They are exactly where they are in normal form: no
-- chunk is empty, and neighbours differ in their kinds.
abbrev pub AreReadable : List Chunk → Type 0
AreReadable cs = chunks_read (to_serialized cs) ≡ Some cs

-- the chunks of both forms
pub record IsReadableText (t : TextView) : Type 0 where
  pub value : AreReadable t.value
  pub short : IfSome t.short AreReadable

pub record IsReadablePublisher (p : PublisherView) : Type 0 where
  pub name : IfSome p.name IsReadableText
  pub location : IfSome p.location IsReadableText

-- the role is one that has a name
abbrev pub HasNamedRole : RolesView → Type 0
HasNamedRole r = option_map role_view (role_read (role_name r.role)) ≡ Some r.role

-- 32 bits hold the year, and 8 bits the month and the day
pub record IsReadableDate (d : Date) : Type 0 where
  pub year : is_i32 d.year ≡ true
  pub month : IfSome d.month (λ m. nat_lt m 256 ≡ true)
  pub day : IfSome d.day (λ n. nat_lt n 256 ≡ true)

abbrev pub IsReadableUrl : UrlView → Type 0
IsReadableUrl u = IfSome u.visit_date IsReadableDate

-- 32 bits hold a number that is alone; any other is read from its text
abbrev pub IsReadableNumber : NumericView → Type 0
IsReadableNumber n = by (single_number n)
  where
    by : Option ℤ → Type 0
    by None = result_ok (numeric_read (round_trip_text n)) ≡ Some n
    by (Some alone) = is_i32 alone ≡ true

-- such a number, or a text that isn't read as one
abbrev pub IsReadableNumberOrText : TypedOrText NumericView → Type 0
IsReadableNumberOrText (Typed n) = IsReadableNumber n
IsReadableNumberOrText (Text text) = result_ok (numeric_read text) ≡ None

-- 32 bits hold the number of a page below 0, any other pages are read from their text; or a text
-- that isn't read as pages
abbrev pub AreReadablePages : TypedOrText (List PartView) → Type 0
AreReadablePages (Typed ps) = by (page_below_zero ps)
  where
    by : Option ℤ → Type 0
    by None = result_ok (pages_read (chars (pages.round_trip_text ps))) ≡ Some ps
    by (Some number) = is_i32 number ≡ true
AreReadablePages (Text text) = result_ok (pages_read (chars text)) ≡ None

-- a typed value that is read from its text, or a text that isn't read as one
abbrev pub IsReadableTyped : {V : Type 0} → (List ℕ → Option V) → (V → List ℕ)
    → TypedOrText V → Type 0
IsReadableTyped reads show (Typed v) = reads (show v) ≡ Some v
IsReadableTyped reads show (Text text) = reads text ≡ None

-- the name comes behind each of these
abbrev pub ComesBehind : List ℕ → Serials → Type 0
ComesBehind name [] = Unit {0}
ComesBehind name (s ∷ rest) = (slice_cmp nat_cmp name s.0 ≡ Greater) × ComesBehind name rest

-- each of these names comes behind those before it
abbrev pub AreInOrder : Serials → Serials → Type 0
AreInOrder before [] = Unit {0}
AreInOrder before (s ∷ rest) = ComesBehind s.0 before × AreInOrder (before ++ s ∷ []) rest

-- ---- entries

-- Each field is as its type says. Persons and languages always are.
pub record FieldsAreReadable (f : Fields) : Type 0 where
  pub title : IfSome f.title IsReadableText
  pub location : IfSome f.location IsReadableText
  pub organization : IfSome f.organization IsReadableText
  pub archive : IfSome f.archive IsReadableText
  pub archive_location : IfSome f.archive_location IsReadableText
  pub call_number : IfSome f.call_number IsReadableText
  pub note : IfSome f.note IsReadableText
  pub abstract_ : IfSome f.abstract_ IsReadableText
  pub genre : IfSome f.genre IsReadableText
  pub affiliated : IfSome f.affiliated (AllByRecursion HasNamedRole)
  pub date : IfSome f.date IsReadableDate
  pub publisher : IfSome f.publisher IsReadablePublisher
  pub url : IfSome f.url IsReadableUrl
  pub issue : IfSome f.issue IsReadableNumberOrText
  pub chapter : IfSome f.chapter IsReadableNumberOrText
  pub volume : IfSome f.volume IsReadableNumberOrText
  pub edition : IfSome f.edition IsReadableNumberOrText
  pub volume_total : IfSome f.volume_total IsReadableNumber
  pub page_total : IfSome f.page_total IsReadableNumber
  pub page_range : IfSome f.page_range AreReadablePages
  pub time_range : IfSome f.time_range
      (IsReadableTyped (λ text. result_ok (range_read (chars text))) range_text)
  pub runtime : IfSome f.runtime
      (IsReadableTyped (λ text. result_ok (duration_read (chars text))) duration_text)
  pub serial_number : IfSome f.serial_number (AreInOrder [])

-- the same of an entry and all its ancestors
abbrev mutual
  pub TreeIsReadable : Tree → Type 0
  TreeIsReadable (node f ps) = FieldsAreReadable f × TreesAreReadable ps

  pub TreesAreReadable : Trees → Type 0
  TreesAreReadable no_trees = Unit {0}
  TreesAreReadable (one_more t ts) = TreeIsReadable t × TreesAreReadable ts

-- the same of the entries of a library
abbrev pub EntriesAreReadable : List Tree → Type 0
EntriesAreReadable [] = Unit {0}
EntriesAreReadable (t ∷ ts) = TreeIsReadable t × EntriesAreReadable ts
