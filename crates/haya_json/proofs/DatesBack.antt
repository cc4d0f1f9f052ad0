-- Dates and addresses that are read from what is printed of them.
use Rattle.std.proofs.Common.{◌≡◌, ℕ, pos, Bool, true, false, List, Option, None, Some, Ok, refl, sym, ap, ◌∙◌}
use Rattle.std.specs.Prelude.{if◌then◌else◌, option_map, option_and_then, nat_eq, nat_lt, is_none, not, IfSome}
use Rattle.std.specs.Option.{option_eq}
use Rattle.std.specs.Result.{result_ok}
use Rattle.std.specs.Str.{chars}
use Rattle.std.specs.Cmp.{signed_Decides}
use Rattle.std.proofs.lemmas.Bool.{eqb-true}
use Rattle.json.specs.Json as json
use Rattle.haya_time.specs.DatePrinted.{date_text}
use Rattle.haya_time.specs.DateReading.{date_read}
use Rattle.haya_time.specs.declared.date.Date.{Date}
use Rattle.haya_time.specs.declared.date.Season.{Season}
use Rattle.haya_time.specs.declared.date.Season.TheVariants.{Spring, Summer, Autumn, Winter}
use Rattle.haya_values.specs.Url.{UrlView}
use Rattle.haya_json.specs.Parts.{unless_null, optional_in, whole_of}
use Rattle.haya_json.specs.Whole.{season_of}
use Rattle.haya_json.specs.Values.{byte_in, date_of, date_in, url_of}
use Rattle.haya_json.specs.Printed.{byte_json, season_json, season_number, whole_json, date_parts, is_year, same_date, reads_as_date, date_json, url_json}
use Rattle.haya_json.specs.Readable.{IsReadableDate, IsReadableUrl}
use Rattle.haya_json.proofs.Looked.{get_also, get_also_true, true_back, nothing_earlier, both_are, same_truths}
use Rattle.haya_json.proofs.Solids.{solid, date_of_null}
use Rattle.haya_json.proofs.Wholes.{whole_back, byte_fits}

byte_optional : (o : Option ℕ) → IfSome o (λ n. nat_lt n 256 ≡ true) → optional_in byte_in (unless_null (option_map byte_json o)) ≡ Ok o
byte_optional None h = refl
byte_optional (Some n) h = rw (whole_back (pos n) (byte_fits n h), h) refl

season_optional : (o : Option Season) → optional_in whole_of (unless_null (option_map season_json o)) ≡ Ok (option_map season_number o)
season_optional None = refl
season_optional (Some Spring) = rw (whole_back (pos 1) refl) refl
season_optional (Some Summer) = rw (whole_back (pos 2) refl) refl
season_optional (Some Autumn) = rw (whole_back (pos 3) refl) refl
season_optional (Some Winter) = rw (whole_back (pos 4) refl) refl

season_again : (o : Option Season) → option_and_then season_of (option_map season_number o) ≡ o
season_again None = refl
season_again (Some Spring) = refl
season_again (Some Summer) = refl
season_again (Some Autumn) = refl
season_again (Some Winter) = refl

date_parts_back : (d : Date) → IsReadableDate d → date_in (date_parts d) ≡ Ok d
date_parts_back d fits =
    simp (get_also, get_also_true, nothing_earlier, whole_back d.year fits.year, byte_optional d.month fits.month, byte_optional d.day fits.day, true_back, season_optional, season_again)

nothing : {V : Type 0} (o : Option V) → is_none o ≡ true → o ≡ None
nothing None h = refl
nothing (Some v) h = cc

is_false : (b : Bool) → not b ≡ true → b ≡ false
is_false true h = cc
is_false false h = refl

year_is : (d : Date) → is_year d ≡ true → d ≡ record { year = d.year; month = None; day = None; approximate = false; season = None }
year_is d h =
    let month = both_are _ _ h in
    let day = both_are _ _ month.1 in
    let season = both_are _ _ day.1 in
    λ i. record {
      year = d.year;
      month = nothing d.month month.0 i;
      day = nothing d.day day.0 i;
      approximate = is_false d.approximate season.1 i;
      season = nothing d.season season.0 i;
    }

same_numbers : (a b : Option ℕ) → option_eq nat_eq a b ≡ true → a ≡ b
same_numbers None None h = refl
same_numbers None (Some y) h = cc
same_numbers (Some x) None h = cc
same_numbers (Some x) (Some y) h = ap Some (eqb-true x y h)

same_dates : (d e : Date) → same_date d e ≡ true → d ≡ e
same_dates d e h =
    let year = both_are _ _ h in
    let month = both_are _ _ year.1 in
    let day = both_are _ _ month.1 in
    let approximate = both_are _ _ day.1 in
    let season = both_are _ _ approximate.1 in
    λ i. record {
      year = (signed_Decides d.year e.year).0 year.0 i;
      month = same_numbers d.month e.month month.0 i;
      day = same_numbers d.day e.day day.0 i;
      approximate = same_truths d.approximate e.approximate approximate.0 i;
      season = (nothing d.season season.0 ∙ sym (nothing e.season season.1)) i;
    }

read_as_date : (text : List ℕ) (d : Date) → reads_as_date text d ≡ true → result_ok (date_read (chars text)) ≡ Some d
read_as_date text d h = by (result_ok (date_read (chars text))) refl
  where
    by : (r : Option Date) → result_ok (date_read (chars text)) ≡ r → result_ok (date_read (chars text)) ≡ Some d
    by None is = let no = rw is at h in cc
    by (Some e) is = let same = rw is at h in is ∙ ap Some (same_dates e d same)

pub date_back : (d : Date) → IsReadableDate d → date_of (date_json d) ≡ Ok d
unfolding date_of date_json
date_back d fits = by (is_year d) refl (reads_as_date (date_text d) d) refl
  where
    by : (a : Bool) → is_year d ≡ a → (b : Bool) → reads_as_date (date_text d) d ≡ b
        → date_of (if is_year d then whole_json d.year else if reads_as_date (date_text d) d then json.string (date_text d) else date_parts d) ≡ Ok d
    by true year b is = rw (year, whole_back d.year fits.year) (ap Ok (sym (year_is d year)))
    by false year true is = rw (year, is, read_as_date (date_text d) d is) refl
    by false year false is = rw (year, is) (date_parts_back d fits)

-- ---- addresses

pub url_back : (u : UrlView) → IsReadableUrl u → url_of (url_json u) ≡ Ok u
unfolding url_of url_json
url_back u fits = by u.visit_date fits
  where
    by : (o : Option Date) → IfSome o IsReadableDate → url_of (url_json (record { value = u.value; visit_date = o })) ≡ Ok (record { value = u.value; visit_date = o })
    by None fits' = refl
    by (Some d) fits' = rw (solid date_of (date_json d) d date_of_null (date_back d fits'), date_back d fits') refl
