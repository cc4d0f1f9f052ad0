-- What the values of fields read as.
use Rattle.std.specs.Prelude.{ℕ, ℤ, false, List, [], ◌∷◌, Option, None, option_map, option_and_then, ok_or, Result, Ok, codes, if◌then◌else◌}
use Rattle.std.specs.BTreeMap.{insert_entry}
use Rattle.std.specs.Cmp.Lexicographic.{slice_cmp}
use Rattle.std.specs.Ordering.{nat_cmp}
use Rattle.std.specs.Result.{result_ok}
use Rattle.std.specs.Str.{chars}
use Rattle.json.specs.Json as json
use Rattle.json.specs.Json.{Json, Members}
use Rattle.json.specs.Find.{is_null}
use Rattle.haya_text.specs.Chunks.{Chunk}
use Rattle.haya_text.specs.Reading.{chunks_read}
use Rattle.haya_text.specs.Texts.{TextView, text_read}
use Rattle.haya_text.specs.declared.strings.kind.ChunkKind.TheVariants.{Verbatim}
use Rattle.haya_time.specs.DateReading.{date_read}
use Rattle.haya_time.specs.DurationReading.{duration_read, range_read}
use Rattle.haya_time.specs.declared.date.Date.{Date}
use Rattle.haya_time.specs.declared.duration.Duration.{Duration}
use Rattle.haya_time.specs.declared.duration.range.DurationRange.{DurationRange}
use Rattle.haya_people.specs.Person.{PersonView}
use Rattle.haya_people.specs.Reading.{person_read}
use Rattle.haya_people.specs.Roles.{RoleView, RolesView, role_read, role_view}
use Rattle.haya_numbers.specs.Numeric.{NumericView, Single, without_affixes}
use Rattle.haya_numbers.specs.NumericReading.{numeric_read}
use Rattle.haya_numbers.specs.Pages.{PartView, page_of}
use Rattle.haya_numbers.specs.PagesReading.{pages_read}
use Rattle.haya_values.specs.MaybeTyped.{TypedOrText, Typed, typed_or_text}
use Rattle.haya_values.specs.Publisher.{PublisherView, publisher_read}
use Rattle.haya_values.specs.Url.{UrlView, undated}
use Rattle.haya_entry.specs.SerialNumber.{Serials}
use Rattle.haya_json.specs.Refusal.{Refusal, here, refused, within, and_then, to_member}
use Rattle.haya_json.specs.Parts.{read_by, plain_of, whole_of, is_object, needed, optional, flag, one_or_many}
use Rattle.haya_json.specs.Whole.{byte_of, season_of}
use Rattle.haya_json.specs.declared.fault.Why.TheVariants.{NotObject, NotWhole, NotChunks, NotPerson, NotDate, NotNumber, NotDuration, UnknownRole}

-- ---- texts with marks, and with a short form

-- one chunk of the text as it stands; an empty text has none
abbrev pub verbatim_text : List ℕ → List Chunk
verbatim_text [] = []
verbatim_text (b ∷ bs) = (b ∷ bs, Verbatim) ∷ []

abbrev pub verbatim_of : Json → Result (List Chunk) Refusal
verbatim_of j = and_then (plain_of j) (λ text. Ok (verbatim_text text))

-- a text with its marks
abbrev pub marked_of : Json → Result (List Chunk) Refusal
marked_of j = read_by NotChunks chunks_read j

-- an object of a `value`, which is taken as it stands where `verbatim` says so
abbrev pub chunks_in : (Json → Result (List Chunk) Refusal) → Json → Result (List Chunk) Refusal
chunks_in read j =
    and_then (flag (codes "verbatim") j) (λ verbatim.
    if verbatim then needed (codes "value") verbatim_of j else needed (codes "value") read j)

-- a text with its marks, or such an object
unfoldable pub chunks_of : Json → Result (List Chunk) Refusal
chunks_of j = if is_object j then chunks_in marked_of j else marked_of j

-- an object of a `value`, and perhaps a `short` form
abbrev pub forms_in : Json → Result TextView Refusal
forms_in j =
    and_then (chunks_in chunks_of j) (λ value.
    and_then (optional (codes "short") chunks_of j) (λ short.
    Ok (record { value = value; short = short })))

-- a text with its marks, or an object of its forms
unfoldable pub format_of : Json → Result TextView Refusal
format_of j = if is_object j then forms_in j else read_by NotChunks text_read j

-- ---- persons

abbrev pub person_in : Json → Result PersonView Refusal
person_in j =
    and_then (needed (codes "name") plain_of j) (λ name.
    and_then (optional (codes "given-name") plain_of j) (λ given_name.
    and_then (optional (codes "prefix") plain_of j) (λ prefix.
    and_then (optional (codes "suffix") plain_of j) (λ suffix.
    and_then (flag (codes "comma-suffix") j) (λ comma_suffix.
    and_then (optional (codes "alias") plain_of j) (λ alias.
    Ok (record {
      name = name;
      given_name = given_name;
      prefix = prefix;
      suffix = suffix;
      comma_suffix = comma_suffix;
      alias = alias;
    })))))))

-- a text whose parts are separated by commas, or an object of the parts of the name
unfoldable pub person_of : Json → Result PersonView Refusal
person_of j =
    if is_object j then person_in j
    else read_by NotPerson (λ text. result_ok (person_read text)) j

-- one person alone, or an array of them
unfoldable pub persons_of : Json → Result (List PersonView) Refusal
persons_of j = one_or_many person_of j

unfoldable pub role_of : Json → Result RoleView Refusal
role_of j = read_by UnknownRole (λ name. option_map role_view (role_read name)) j

abbrev pub roles_in : Json → Result RolesView Refusal
roles_in j =
    and_then (needed (codes "role") role_of j) (λ role.
    and_then (needed (codes "names") persons_of j) (λ names.
    Ok (record { names = names; role = role })))

-- an object of a `role` and its `names`
unfoldable pub roles_of : Json → Result RolesView Refusal
roles_of j = if is_object j then roles_in j else refused NotObject

unfoldable pub affiliated_of : Json → Result (List RolesView) Refusal
affiliated_of j = one_or_many roles_of j

-- ---- dates

-- the number of a month or a day, from 0 on
abbrev pub byte_in : Json → Result ℕ Refusal
byte_in j = and_then (whole_of j) (λ n. ok_or (byte_of n) (here NotWhole))

abbrev pub date_in : Json → Result Date Refusal
date_in j =
    and_then (needed (codes "year") whole_of j) (λ year.
    and_then (optional (codes "month") byte_in j) (λ month.
    and_then (optional (codes "day") byte_in j) (λ day.
    and_then (flag (codes "approximate") j) (λ approximate.
    and_then (optional (codes "season") whole_of j) (λ season.
    Ok (record {
      year = year;
      month = month;
      day = day;
      approximate = approximate;
      season = option_and_then season_of season;
    }))))))

abbrev pub year_alone : ℤ → Date
year_alone year =
    record { year = year; month = None; day = None; approximate = false; season = None }

-- a text, the number of a year, or an object of the parts of a date
unfoldable pub date_of : Json → Result Date Refusal
date_of (json.object ms) = date_in (json.object ms)
date_of (json.number s) = and_then (whole_of (json.number s)) (λ year. Ok (year_alone year))
date_of j = read_by NotDate (λ text. result_ok (date_read (chars text))) j

-- ---- publishers and addresses

abbrev pub publisher_in : Json → Result PublisherView Refusal
publisher_in j =
    and_then (optional (codes "name") format_of j) (λ name.
    and_then (optional (codes "location") format_of j) (λ location.
    Ok (record { name = name; location = location })))

-- the publisher's name, or an object of a `name` and a `location`
unfoldable pub publisher_of : Json → Result PublisherView Refusal
publisher_of j = if is_object j then publisher_in j else read_by NotChunks publisher_read j

abbrev pub url_in : Json → Result UrlView Refusal
url_in j =
    and_then (needed (codes "value") plain_of j) (λ value.
    and_then (optional (codes "date") date_of j) (λ date.
    Ok (record { value = value; visit_date = date })))

-- the address, or an object of a `value` and the `date` of a visit
unfoldable pub url_of : Json → Result UrlView Refusal
url_of j = if is_object j then url_in j else and_then (plain_of j) (λ text. Ok (undated text))

-- ---- numbers and pages

abbrev pub one_number : ℤ → NumericView
one_number n = without_affixes (Single n)

-- a whole number, or the text of a number
unfoldable pub number_of : Json → Result NumericView Refusal
number_of (json.number s) = and_then (whole_of (json.number s)) (λ n. Ok (one_number n))
number_of j = read_by NotNumber (λ text. result_ok (numeric_read text)) j

-- what a reader of texts reads, or the text itself
abbrev pub typed_by : {V : Type 0} → (List ℕ → Option V) → Json → Result (TypedOrText V) Refusal
typed_by reads j = and_then (plain_of j) (λ text. Ok (typed_or_text (reads text) text))

-- a whole number, the text of a number, or any other text
unfoldable pub number_or_text_of : Json → Result (TypedOrText NumericView) Refusal
number_or_text_of (json.number s) =
    and_then (whole_of (json.number s)) (λ n. Ok (Typed (one_number n)))
number_or_text_of j = typed_by (λ text. result_ok (numeric_read text)) j

-- the number of one page, the text of pages, or any other text
unfoldable pub pages_or_text_of : Json → Result (TypedOrText (List PartView)) Refusal
pages_or_text_of (json.number s) =
    and_then (whole_of (json.number s)) (λ n. Ok (Typed (page_of n ∷ [])))
pages_or_text_of j = typed_by (λ text. result_ok (pages_read (chars text))) j

-- ---- durations

unfoldable pub duration_of : Json → Result Duration Refusal
duration_of j = read_by NotDuration (λ text. result_ok (duration_read (chars text))) j

unfoldable pub duration_or_text_of : Json → Result (TypedOrText Duration) Refusal
duration_or_text_of j = typed_by (λ text. result_ok (duration_read (chars text))) j

abbrev pub range_in : Json → Result DurationRange Refusal
range_in j =
    and_then (needed (codes "start") duration_of j) (λ start.
    and_then (needed (codes "end") duration_of j) (λ end.
    Ok (record { start = start; end = end })))

-- the text of a range, any other text, or an object of a `start` and an `end`
unfoldable pub range_or_text_of : Json → Result (TypedOrText DurationRange) Refusal
range_or_text_of j =
    if is_object j then and_then (range_in j) (λ range. Ok (Typed range))
    else typed_by (λ text. result_ok (range_read (chars text))) j

-- ---- serial numbers

-- the numbers with this one under the name, but where it is null
abbrev pub serials_and : Serials → List ℕ → Json → Result Serials Refusal
serials_and serials name j =
    if is_null j then Ok serials
    else and_then (plain_of j) (λ text. Ok (insert_entry (slice_cmp nat_cmp) serials name text))

-- the numbers of an object, each under its name, beside those that are there
abbrev pub serials_with : Serials → Members → Result Serials Refusal
serials_with serials json.no_members = Ok serials
serials_with serials (json.member k j ms) =
    and_then (within (to_member k) (serials_and serials k j)) (λ more. serials_with more ms)

-- an object of numbers under their keys, or one number, under the key `serial`
unfoldable pub serials_of : Json → Result Serials Refusal
serials_of (json.object ms) = serials_with [] ms
serials_of j = and_then (plain_of j) (λ text. Ok ((codes "serial", text) ∷ []))
