-- Values that were read are as their types say can be read again.
use Rattle.std.proofs.Common.{◌≡◌, ℕ, ◌^◌, ℤ, pos, negsuc, Bool, true, false, nat_lt, ◌&&◌, List, [], ◌∷◌, Option, None, Some, Result, Ok, Err, refl, ap, subst, cond, IsUtf8}
use Rattle.std.specs.Prelude.{codes, option_map, option_and_then, if◌then◌else◌}
use Rattle.std.specs.List.{AllByRecursion}
use Rattle.std.specs.Result.{result_ok}
use Rattle.std.specs.Str.{chars}
use Rattle.std.specs.Str.Parse.{signed_digits_value, without_leading_sign}
use Rattle.json.specs.Json as json
use Rattle.json.specs.Json.{Json}
use Rattle.json.specs.Find.{as_number}
use Rattle.haya_text.specs.Chunks.{Chunk}
use Rattle.haya_text.specs.Reading.{chunks_read}
use Rattle.haya_text.specs.Texts.{TextView, text_read as format_read, without_short}
use Rattle.haya_numbers.specs.Numeric.{NumericView, single_number}
use Rattle.haya_numbers.specs.NumericReading.{numeric_read}
use Rattle.haya_numbers.specs.NumericRoundTrip.{round_trip_text}
use Rattle.haya_numbers.specs.Pages.{PartView, Ampersand, Comma, EscapedRange, SinglePage, Range, page_of}
use Rattle.haya_numbers.specs.PagesBack.{is_from_zero}
use Rattle.haya_numbers.specs.PagesReading.{pages_read}
use Rattle.haya_numbers.specs.PagesRoundTrip as again_pages
use Rattle.haya_people.specs.Roles.{RolesView, RoleView, role_name, role_read, role_view}
use Rattle.haya_people.specs.declared.role.PersonRole.{PersonRole}
use Rattle.haya_time.specs.DateReading.{date_read}
use Rattle.haya_time.specs.DurationPrint.{duration_text, range_text}
use Rattle.haya_time.specs.DurationReading.{duration_read, range_read}
use Rattle.haya_time.specs.declared.date.Date.{Date}
use Rattle.haya_time.specs.declared.duration.Duration.{Duration}
use Rattle.haya_time.specs.declared.duration.range.DurationRange.{DurationRange}
use Rattle.haya_values.specs.MaybeTyped.{TypedOrText, Typed, Text, typed_or_text}
use Rattle.haya_values.specs.Publisher.{PublisherView, publisher_named, publisher_read}
use Rattle.haya_values.specs.Url.{UrlView, undated}
use Rattle.haya_json.specs.Refusal.{Refusal, refused, and_then}
use Rattle.haya_json.specs.Parts.{plain_of, read_by, whole_of, is_object, needed, optional, flag}
use Rattle.haya_json.specs.Whole.{is_i32, is_numeral, whole_read, byte_of}
use Rattle.haya_json.specs.Values.{verbatim_text, verbatim_of, marked_of, chunks_in, chunks_of, forms_in, format_of, role_of, roles_in, roles_of, affiliated_of, persons_of, byte_in, date_in, date_of, year_alone, publisher_in, publisher_of, url_in, url_of, number_of, one_number, typed_by, number_or_text_of, pages_or_text_of, duration_of, duration_or_text_of, range_in, range_or_text_of}
use Rattle.haya_json.specs.Printed.{below_zero, page_below_zero}
use Rattle.haya_json.specs.Readable.{AreReadable, AreReadablePages, IsReadableText, IsReadablePublisher, HasNamedRole, IsReadableDate, IsReadableUrl, IsReadableNumber, IsReadableNumberOrText, IsReadableTyped}
use Rattle.haya_json.specs.declared.fault.Why.TheVariants.{NotObject, NotChunks, NotDate, NotNumber, NotDuration, UnknownRole}
use Rattle.haya_json.proofs.TextsRead.{HasTexts, both_ok, ok_same, given, by_text, text_read, needed_read, optional_read, many_read}

-- what the crates of the values say of what was read
pub record ReadAgain : Type 0 where
  pub texts : (text : List ℕ) (cs : List Chunk) → IsUtf8 text → chunks_read text ≡ Some cs → AreReadable cs
  pub verbatim : (text : List ℕ) → IsUtf8 text → AreReadable (verbatim_text text)
  pub dates : (text : List ℕ) (d : Date) → date_read (chars text) ≡ Ok d → IsReadableDate d
  pub roles : (text : List ℕ) (r : PersonRole) → role_read text ≡ Some r → option_map role_view (role_read (role_name (role_view r))) ≡ Some (role_view r)
  pub numbers : (text : List ℕ) (n : NumericView) → IsUtf8 text → numeric_read text ≡ Ok n → numeric_read (round_trip_text n) ≡ Ok n
  pub small_numbers : (text : List ℕ) (n : NumericView) (z : ℤ) → numeric_read text ≡ Ok n → single_number n ≡ Some z → is_i32 z ≡ true
  pub pages : (text : List ℕ) (ps : List PartView) → IsUtf8 text → pages_read (chars text) ≡ Ok ps → pages_read (chars (again_pages.round_trip_text ps)) ≡ Ok ps
  pub page : (n : ℕ) → nat_lt n (2 ^ 31) ≡ true → pages_read (chars (again_pages.round_trip_text (page_of (pos n) ∷ []))) ≡ Ok (page_of (pos n) ∷ [])
  pub page_alone : (text : List ℕ) (n : NumericView) → IsUtf8 text → pages_read (chars text) ≡ Ok (SinglePage n ∷ []) → is_from_zero (single_number n) ≡ true
  pub durations : (text : List ℕ) (d : Duration) → duration_read (chars text) ≡ Ok d → duration_read (chars (duration_text d)) ≡ Ok d
  pub ranges : (text : List ℕ) (r : DurationRange) → range_read (chars text) ≡ Ok r → range_read (chars (range_text r)) ≡ Ok r
  pub made_ranges : (first second : List ℕ) (start end : Duration) → duration_read (chars first) ≡ Ok start → duration_read (chars second) ≡ Ok end
      → range_read (chars (range_text (record { start = start; end = end }))) ≡ Ok (record { start = start; end = end })

from_ok : {V E : Type 0} (r : Result V E) (v : V) → result_ok r ≡ Some v → r ≡ Ok v
from_ok (Ok x) v h = let same : x ≡ v = cc in ap Ok same
from_ok (Err e) v h = cc

-- ---- whole numbers

whole_fits : (text : List ℕ) (z : ℤ) → whole_read text ≡ Some z → is_i32 z ≡ true
whole_fits text z h = by (is_numeral (without_leading_sign text)) (is_i32 (signed_digits_value 10 text)) (signed_digits_value 10 text) refl h
  where
    by : (a b : Bool) (n : ℤ) → is_i32 n ≡ b → cond (a && b) (Some n) None ≡ Some z → is_i32 z ≡ true
    by true true n e k = let same : n ≡ z = cc in rw (← same) e
    by true false n e k = cc
    by false b n e k = cc

pub whole_fit : (j : Json) (z : ℤ) → whole_of j ≡ Ok z → is_i32 z ≡ true
whole_fit j z h = by (as_number j) (given (option_and_then whole_read (as_number j)) _ z h)
  where
    by : (o : Option (List ℕ)) → option_and_then whole_read o ≡ Some z → is_i32 z ≡ true
    by None k = cc
    by (Some text) k = whole_fits text z k

byte_fits : (z : ℤ) (n : ℕ) → byte_of z ≡ Some n → nat_lt n 256 ≡ true
byte_fits (negsuc k) n h = cc
byte_fits (pos k) n h = by (nat_lt k 256) refl h
  where
    by : (b : Bool) → nat_lt k 256 ≡ b → cond b (Some k) None ≡ Some n → nat_lt n 256 ≡ true
    by true e h = let same : k ≡ n = cc in rw (← same) e
    by false e h = cc

abbrev pub ReadableDuration : TypedOrText Duration → Type 0
ReadableDuration v = IsReadableTyped (λ text. result_ok (duration_read (chars text))) duration_text v

abbrev pub ReadableRange : TypedOrText DurationRange → Type 0
ReadableRange v = IsReadableTyped (λ text. result_ok (range_read (chars text))) range_text v

module _ (again : ReadAgain) where
  -- ---- texts and publishers

  marked_read : (j : Json) (cs : List Chunk) → HasTexts j → marked_of j ≡ Ok cs → AreReadable cs
  marked_read j cs u h = let t = by_text NotChunks chunks_read j cs u h in again.texts t.text cs t.utf8 t.read

  verbatim_read : (j : Json) (cs : List Chunk) → HasTexts j → verbatim_of j ≡ Ok cs → AreReadable cs
  verbatim_read j cs u h =
      let b = both_ok (plain_of j) _ cs h in
      let same : verbatim_text b.value ≡ cs = ok_same b.then in
      subst AreReadable same (again.verbatim b.value (text_read j b.value u b.first))

  chunks_in_read : (read : Json → Result (List Chunk) Refusal) → ((j : Json) (cs : List Chunk) → HasTexts j → read j ≡ Ok cs → AreReadable cs)
      → (j : Json) (cs : List Chunk) → HasTexts j → chunks_in read j ≡ Ok cs → AreReadable cs
  chunks_in_read read each j cs u h =
      let b = both_ok (flag (codes "verbatim") j) _ cs h in by b.value b.then
    where
      by : (v : Bool) → (if v then needed (codes "value") verbatim_of j else needed (codes "value") read j) ≡ Ok cs → AreReadable cs
      by true k = needed_read AreReadable verbatim_of verbatim_read (codes "value") j cs u k
      by false k = needed_read AreReadable read each (codes "value") j cs u k

  chunks_was_read : (j : Json) (cs : List Chunk) → HasTexts j → chunks_of j ≡ Ok cs → AreReadable cs
  unfolding chunks_of
  chunks_was_read j cs u h = by (is_object j) h
    where
      by : (b : Bool) → (if b then chunks_in marked_of j else marked_of j) ≡ Ok cs → AreReadable cs
      by true k = chunks_in_read marked_of marked_read j cs u k
      by false k = marked_read j cs u k

  forms_read : (j : Json) (t : TextView) → HasTexts j → forms_in j ≡ Ok t → IsReadableText t
  forms_read j t u h =
      let value = both_ok (chunks_in chunks_of j) _ t h in
      let short = both_ok (optional (codes "short") chunks_of j) _ t value.then in
      let same = ok_same short.then in
      subst IsReadableText same (record {
        value = chunks_in_read chunks_of chunks_was_read j value.value u value.first;
        short = optional_read AreReadable chunks_of chunks_was_read (codes "short") j short.value u short.first;
      })

  format_text : (text : List ℕ) (t : TextView) → IsUtf8 text → format_read text ≡ Some t → IsReadableText t
  format_text text t u h = by (chunks_read text) refl h
    where
      by : (o : Option (List Chunk)) → chunks_read text ≡ o → option_map without_short o ≡ Some t → IsReadableText t
      by None e k = cc
      by (Some cs) e k =
          let same : without_short cs ≡ t = cc in
          subst IsReadableText same (record { value = again.texts text cs u e; short = tt })

  pub format_read_again : (j : Json) (t : TextView) → HasTexts j → format_of j ≡ Ok t → IsReadableText t
  unfolding format_of
  format_read_again j t u h = by (is_object j) h
    where
      by : (b : Bool) → (if b then forms_in j else read_by NotChunks format_read j) ≡ Ok t → IsReadableText t
      by true k = forms_read j t u k
      by false k = let s = by_text NotChunks format_read j t u k in format_text s.text t s.utf8 s.read

  pub publisher_read_again : (j : Json) (p : PublisherView) → HasTexts j → publisher_of j ≡ Ok p → IsReadablePublisher p
  unfolding publisher_of
  publisher_read_again j p u h = by (is_object j) h
    where
      named : (text : List ℕ) → IsUtf8 text → (o : Option TextView) → format_read text ≡ o → option_map publisher_named o ≡ Some p → IsReadablePublisher p
      named text v None e k = cc
      named text v (Some t) e k =
          let same : publisher_named t ≡ p = cc in
          subst IsReadablePublisher same (record { name = format_text text t v e; location = tt })

      by : (b : Bool) → (if b then publisher_in j else read_by NotChunks publisher_read j) ≡ Ok p → IsReadablePublisher p
      by true k =
          let name = both_ok (optional (codes "name") format_of j) _ p k in
          let location = both_ok (optional (codes "location") format_of j) _ p name.then in
          let same = ok_same location.then in
          subst IsReadablePublisher same (record {
            name = optional_read IsReadableText format_of format_read_again (codes "name") j name.value u name.first;
            location = optional_read IsReadableText format_of format_read_again (codes "location") j location.value u location.first;
          })
      by false k = let s = by_text NotChunks publisher_read j p u k in named s.text s.utf8 (format_read s.text) refl s.read

  -- ---- roles, dates and addresses

  role_was_read : (j : Json) (r : RoleView) → HasTexts j → role_of j ≡ Ok r → option_map role_view (role_read (role_name r)) ≡ Some r
  unfolding role_of
  role_was_read j r u h = let t = by_text UnknownRole _ j r u h in by t.text (role_read t.text) refl t.read
    where
      by : (text : List ℕ) (o : Option PersonRole) → role_read text ≡ o → option_map role_view o ≡ Some r → option_map role_view (role_read (role_name r)) ≡ Some r
      by text None e k = cc
      by text (Some p) e k = let same : role_view p ≡ r = cc in subst (λ q. option_map role_view (role_read (role_name q)) ≡ Some q) same (again.roles text p e)

  roles_read : (j : Json) (r : RolesView) → HasTexts j → roles_of j ≡ Ok r → HasNamedRole r
  unfolding roles_of
  roles_read j r u h = by (is_object j) h
    where
      by : (b : Bool) → (if b then roles_in j else refused NotObject) ≡ Ok r → HasNamedRole r
      by true k =
          let role = both_ok (needed (codes "role") role_of j) _ r k in
          let names = both_ok (needed (codes "names") persons_of j) _ r role.then in
          let same = ok_same names.then in
          subst HasNamedRole same (needed_read (λ q. option_map role_view (role_read (role_name q)) ≡ Some q) role_of role_was_read (codes "role") j role.value u role.first)
      by false k = cc

  pub affiliated_read_again : (j : Json) (rs : List RolesView) → HasTexts j → affiliated_of j ≡ Ok rs → AllByRecursion HasNamedRole rs
  unfolding affiliated_of
  affiliated_read_again j rs u h = many_read HasNamedRole roles_of roles_read j rs u h

  byte_read : (j : Json) (n : ℕ) → HasTexts j → byte_in j ≡ Ok n → nat_lt n 256 ≡ true
  byte_read j n u h = let b = both_ok (whole_of j) _ n h in byte_fits b.value n (given (byte_of b.value) _ n b.then)

  date_parts_read : (j : Json) (d : Date) → HasTexts j → date_in j ≡ Ok d → IsReadableDate d
  date_parts_read j d u h =
      let year = both_ok (needed (codes "year") whole_of j) _ d h in
      let month = both_ok (optional (codes "month") byte_in j) _ d year.then in
      let day = both_ok (optional (codes "day") byte_in j) _ d month.then in
      let approximate = both_ok (flag (codes "approximate") j) _ d day.then in
      let season = both_ok (optional (codes "season") whole_of j) _ d approximate.then in
      let same = ok_same season.then in
      subst IsReadableDate same (record {
        year = needed_read (λ z. is_i32 z ≡ true) whole_of (λ m z v k. whole_fit m z k) (codes "year") j year.value u year.first;
        month = optional_read (λ n. nat_lt n 256 ≡ true) byte_in byte_read (codes "month") j month.value u month.first;
        day = optional_read (λ n. nat_lt n 256 ≡ true) byte_in byte_read (codes "day") j day.value u day.first;
      })

  date_by_text : (j : Json) (d : Date) → HasTexts j → read_by NotDate (λ text. result_ok (date_read (chars text))) j ≡ Ok d → IsReadableDate d
  date_by_text j d u h = let t = by_text NotDate _ j d u h in again.dates t.text d (from_ok (date_read (chars t.text)) d t.read)

  pub date_read_again : (j : Json) (d : Date) → HasTexts j → date_of j ≡ Ok d → IsReadableDate d
  unfolding date_of
  date_read_again (json.object ms) d u h = date_parts_read (json.object ms) d u h
  date_read_again (json.number s) d u h =
      let b = both_ok (whole_of (json.number s)) _ d h in
      let same : year_alone b.value ≡ d = ok_same b.then in
      subst IsReadableDate same (record { year = whole_fit (json.number s) b.value b.first; month = tt; day = tt })
  date_read_again (json.string s) d u h = date_by_text (json.string s) d u h
  date_read_again json.null d u h = cc
  date_read_again (json.boolean b) d u h = cc
  date_read_again (json.array js) d u h = cc

  pub url_read_again : (j : Json) (w : UrlView) → HasTexts j → url_of j ≡ Ok w → IsReadableUrl w
  unfolding url_of
  url_read_again j w u h = by (is_object j) h
    where
      by : (b : Bool) → (if b then url_in j else and_then (plain_of j) (λ text. Ok (undated text))) ≡ Ok w → IsReadableUrl w
      by true k =
          let value = both_ok (needed (codes "value") plain_of j) _ w k in
          let date = both_ok (optional (codes "date") date_of j) _ w value.then in
          let same = ok_same date.then in
          subst IsReadableUrl same (optional_read IsReadableDate date_of date_read_again (codes "date") j date.value u date.first)
      by false k =
          let b = both_ok (plain_of j) _ w k in
          let same : undated b.value ≡ w = ok_same b.then in
          subst IsReadableUrl same tt

  -- ---- numbers, pages and times

  number_text : (text : List ℕ) (n : NumericView) → IsUtf8 text → numeric_read text ≡ Ok n → IsReadableNumber n
  number_text text n u h = by (single_number n) refl
    where
      by : (o : Option ℤ) → single_number n ≡ o → IsReadableNumber n
      by None e = rw e (ap result_ok (again.numbers text n u h))
      by (Some z) e = rw e (again.small_numbers text n z h e)

  pub number_read_again : (j : Json) (n : NumericView) → HasTexts j → number_of j ≡ Ok n → IsReadableNumber n
  unfolding number_of
  number_read_again (json.number s) n u h =
      let b = both_ok (whole_of (json.number s)) _ n h in
      let same : one_number b.value ≡ n = ok_same b.then in
      subst IsReadableNumber same (whole_fit (json.number s) b.value b.first)
  number_read_again (json.string s) n u h = let t = by_text NotNumber (λ text. result_ok (numeric_read text)) (json.string s) n u h in number_text t.text n t.utf8 (from_ok (numeric_read t.text) n t.read)
  number_read_again json.null n u h = cc
  number_read_again (json.boolean b) n u h = cc
  number_read_again (json.array js) n u h = cc
  number_read_again (json.object ms) n u h = cc

  -- a value by a reader of texts
  typed_was_read : {V : Type 0} (reads : List ℕ → Option V) (P : TypedOrText V → Type 0)
      → ((text : List ℕ) (v : V) → IsUtf8 text → reads text ≡ Some v → P (Typed v)) → ((text : List ℕ) → reads text ≡ None → P (Text text))
      → (j : Json) (v : TypedOrText V) → HasTexts j → typed_by reads j ≡ Ok v → P v
  typed_was_read reads P typed other j v u h =
      let b = both_ok (plain_of j) _ v h in
      let same = ok_same b.then in
      subst P same (by b.value (text_read j b.value u b.first) (reads b.value) refl)
    where
      by : (text : List ℕ) → IsUtf8 text → (o : Option _) → reads text ≡ o → P (typed_or_text o text)
      by text w None e = other text e
      by text w (Some x) e = typed text x w e

  numbers_or_text : (j : Json) (v : TypedOrText NumericView) → HasTexts j → typed_by (λ text. result_ok (numeric_read text)) j ≡ Ok v → IsReadableNumberOrText v
  numbers_or_text j v u h =
      typed_was_read (λ text. result_ok (numeric_read text)) IsReadableNumberOrText (λ text n w e. number_text text n w (from_ok (numeric_read text) n e)) (λ text e. e) j v u h

  pub number_or_text_read_again : (j : Json) (v : TypedOrText NumericView) → HasTexts j → number_or_text_of j ≡ Ok v → IsReadableNumberOrText v
  unfolding number_or_text_of
  number_or_text_read_again (json.number s) v u h =
      let b = both_ok (whole_of (json.number s)) _ v h in
      let same : Typed (one_number b.value) ≡ v = ok_same b.then in
      subst IsReadableNumberOrText same (whole_fit (json.number s) b.value b.first)
  number_or_text_read_again (json.string s) v u h = numbers_or_text (json.string s) v u h
  number_or_text_read_again json.null v u h = cc
  number_or_text_read_again (json.boolean b) v u h = cc
  number_or_text_read_again (json.array js) v u h = cc
  number_or_text_read_again (json.object ms) v u h = cc

  none_below : (text : List ℕ) (ps : List PartView) (z : ℤ) → IsUtf8 text → pages_read (chars text) ≡ Ok ps → page_below_zero ps ≡ Some z → ⊥
  none_below text [] z u h is = absurd (let f : ⊥ = cc in f)
  none_below text (SinglePage n ∷ []) z u h is = by (single_number n) (again.page_alone text n u h) is
    where
      by : (o : Option ℤ) → is_from_zero o ≡ true → below_zero o ≡ Some z → ⊥
      by None f k = absurd (let g : ⊥ = cc in g)
      by (Some (pos m)) f k = absurd (let g : ⊥ = cc in g)
      by (Some (negsuc m)) f k = absurd (let g : ⊥ = cc in g)
  none_below text (SinglePage n ∷ p ∷ ps) z u h is = absurd (let f : ⊥ = cc in f)
  none_below text (Ampersand ∷ ps) z u h is = absurd (let f : ⊥ = cc in f)
  none_below text (Comma ∷ ps) z u h is = absurd (let f : ⊥ = cc in f)
  none_below text (EscapedRange a b ∷ ps) z u h is = absurd (let f : ⊥ = cc in f)
  none_below text (Range a b ∷ ps) z u h is = absurd (let f : ⊥ = cc in f)

  pages_text : (text : List ℕ) (ps : List PartView) → IsUtf8 text → pages_read (chars text) ≡ Ok ps → (o : Option ℤ) → page_below_zero ps ≡ o → AreReadablePages (Typed ps)
  pages_text text ps u h None is = rw is (ap result_ok (again.pages text ps u h))
  pages_text text ps u h (Some z) is = absurd (none_below text ps z u h is)

  pages_by_text : (j : Json) (v : TypedOrText (List PartView)) → HasTexts j → typed_by (λ text. result_ok (pages_read (chars text))) j ≡ Ok v → AreReadablePages v
  pages_by_text j v u h =
      typed_was_read (λ text. result_ok (pages_read (chars text))) AreReadablePages (λ text ps w e. pages_text text ps w (from_ok (pages_read (chars text)) ps e) (page_below_zero ps) refl) (λ text e. e) j v u h

  one_page : (z : ℤ) → is_i32 z ≡ true → AreReadablePages (Typed (page_of z ∷ []))
  one_page (pos n) fits = ap result_ok (again.page n fits)
  one_page (negsuc n) fits = fits

  pub pages_read_again : (j : Json) (v : TypedOrText (List PartView)) → HasTexts j → pages_or_text_of j ≡ Ok v → AreReadablePages v
  unfolding pages_or_text_of
  pages_read_again (json.number s) v u h =
      let b = both_ok (whole_of (json.number s)) _ v h in
      let same : Typed (page_of b.value ∷ []) ≡ v = ok_same b.then in
      subst AreReadablePages same (one_page b.value (whole_fit (json.number s) b.value b.first))
  pages_read_again (json.string s) v u h = pages_by_text (json.string s) v u h
  pages_read_again json.null v u h = cc
  pages_read_again (json.boolean b) v u h = cc
  pages_read_again (json.array js) v u h = cc
  pages_read_again (json.object ms) v u h = cc

  pub duration_read_again : (j : Json) (v : TypedOrText Duration) → HasTexts j → duration_or_text_of j ≡ Ok v → ReadableDuration v
  unfolding duration_or_text_of
  duration_read_again j v u h =
      typed_was_read (λ text. result_ok (duration_read (chars text))) ReadableDuration (λ text d w e. ap result_ok (again.durations text d (from_ok (duration_read (chars text)) d e))) (λ text e. e) j v u h

  WasDuration : Duration → Type 0
  WasDuration d = (text : List ℕ) × (duration_read (chars text) ≡ Ok d)

  end_read : (j : Json) (d : Duration) → HasTexts j → duration_of j ≡ Ok d → WasDuration d
  unfolding duration_of WasDuration
  end_read j d u h = let t = by_text NotDuration _ j d u h in (t.text, from_ok (duration_read (chars t.text)) d t.read)

  made_range : (j : Json) (v : TypedOrText DurationRange) → HasTexts j → and_then (range_in j) (λ range. Ok (Typed range)) ≡ Ok v → ReadableRange v
  unfolding WasDuration
  made_range j v u h =
      let range = both_ok (range_in j) _ v h in
      let start = both_ok (needed (codes "start") duration_of j) _ range.value range.first in
      let end = both_ok (needed (codes "end") duration_of j) _ range.value start.then in
      let whole = ok_same end.then in
      let same = ok_same range.then in
      let first = needed_read WasDuration duration_of end_read (codes "start") j start.value u start.first in
      let last = needed_read WasDuration duration_of end_read (codes "end") j end.value u end.first in
      subst ReadableRange same (subst (λ r. ReadableRange (Typed r)) whole (ap result_ok (again.made_ranges first.0 last.0 start.value end.value first.1 last.1)))

  pub range_read_again : (j : Json) (v : TypedOrText DurationRange) → HasTexts j → range_or_text_of j ≡ Ok v → ReadableRange v
  unfolding range_or_text_of
  range_read_again j v u h = by (is_object j) h
    where
      by : (b : Bool) → (if b then and_then (range_in j) (λ range. Ok (Typed range)) else typed_by (λ text. result_ok (range_read (chars text))) j) ≡ Ok v → ReadableRange v
      by true k = made_range j v u k
      by false k = typed_was_read (λ text. result_ok (range_read (chars text))) ReadableRange (λ text r w e. ap result_ok (again.ranges text r (from_ok (range_read (chars text)) r e))) (λ text e. e) j v u k
