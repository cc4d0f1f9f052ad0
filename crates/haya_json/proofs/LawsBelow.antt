-- What the laws of the crates below say of values that were read, gathered.
use Rattle.std.proofs.Common.{◌≡◌, ◌≢◌, ◌↔◌, ℕ, ◌<◌, ◌^◌, true, List, [], ◌∷◌, Some, Ok, refl, ap, ℤ, pos, negsuc, IsUtf8, arith}
use Rattle.std.proofs.lemmas.Bool.Decides.{nat_tests}
use Rattle.std.proofs.lemmas.Str.{chars-nil}
use Rattle.std.specs.Str.{chars}
use Rattle.haya_text.specs.Chunks.{Chunk}
use Rattle.haya_text.specs.Printing.{to_serialized}
use Rattle.haya_text.specs.Reading.{chunks_read}
use Rattle.haya_text.specs.declared.strings.kind.ChunkKind.{ChunkKind}
use Rattle.haya_text.specs.declared.strings.kind.ChunkKind.TheVariants.{Verbatim}
use Rattle.haya_numbers.specs.Numeric.{NumericView, Single, single_number}
use Rattle.haya_numbers.specs.NumericBack.{is_readable}
use Rattle.haya_numbers.specs.NumericReading.{numeric_read}
use Rattle.haya_numbers.specs.NumericRoundTrip.{round_trip_text}
use Rattle.haya_numbers.specs.Pages.{PartView, SinglePage, page_of}
use Rattle.haya_numbers.specs.PagesBack.{is_from_zero}
use Rattle.haya_numbers.specs.PagesReading.{pages_read}
use Rattle.haya_numbers.specs.PagesRoundTrip as again_pages
use Rattle.haya_time.specs.DateForms.{ReadsAs}
use Rattle.haya_time.specs.DateReading.{date_read}
use Rattle.haya_time.specs.DurationPrint.{duration_text, range_text}
use Rattle.haya_time.specs.DurationReading.{duration_read, range_read}
use Rattle.haya_time.specs.declared.date.Date.{Date}
use Rattle.haya_time.specs.declared.duration.Duration.{Duration}
use Rattle.haya_time.specs.declared.duration.range.DurationRange.{DurationRange}
use Rattle.haya_json.specs.Readable.{AreReadable}
use Rattle.haya_json.specs.Values.{verbatim_text}
use Rattle.haya_json.specs.Whole.{is_i32}
use Rattle.haya_json.proofs.NamedRead.{date_small, role_again}
use Rattle.haya_json.proofs.NumbersBack.{single_is}
use Rattle.haya_json.proofs.ValuesRead.{ReadAgain}

-- the laws, each as its crate states it
pub record LawsBelow : Type 0 where
  pub texts : (text : List ℕ) (cs : List Chunk) → IsUtf8 text → chunks_read text ≡ Some cs → chunks_read (to_serialized cs) ≡ Some cs
  pub chunk : (bytes : List ℕ) (kind : ChunkKind) → IsUtf8 bytes → bytes ≢ [] → chunks_read (to_serialized ((bytes, kind) ∷ [])) ≡ Some ((bytes, kind) ∷ [])
  pub numbers : (text : List ℕ) (n : NumericView) → IsUtf8 text → numeric_read text ≡ Ok n → numeric_read (round_trip_text n) ≡ Ok n
  pub bounds : (text : List ℕ) (n : NumericView) (z : ℤ) → numeric_read text ≡ Ok n → n.value ≡ Single z → is_readable z ≡ true
  pub pages : (text : List ℕ) (ps : List PartView) → IsUtf8 text → pages_read (chars text) ≡ Ok ps → pages_read (chars (again_pages.round_trip_text ps)) ≡ Ok ps
  pub page : (n : ℕ) → n < 2 ^ 31 → pages_read (chars (again_pages.round_trip_text (page_of (pos n) ∷ []))) ≡ Ok (page_of (pos n) ∷ [])
  pub page_alone : (text : List ℕ) (n : NumericView) → IsUtf8 text → pages_read (chars text) ≡ Ok (SinglePage n ∷ []) → is_from_zero (single_number n) ≡ true
  pub durations : (text : List ℕ) (d : Duration) → duration_read text ≡ Ok d → duration_read (chars (duration_text d)) ≡ Ok d
  pub ranges : (text : List ℕ) (r : DurationRange) → range_read text ≡ Ok r → range_read (chars (range_text r)) ≡ Ok r
  pub ends : (first second : List ℕ) (r : DurationRange) → duration_read first ≡ Ok r.start → duration_read second ≡ Ok r.end → range_read (chars (range_text r)) ≡ Ok r
  pub dates : (text : List ℕ) (d : Date) → (date_read text ≡ Ok d) ↔ ReadsAs text d

-- a number above the least i32 fits 32 bits
readable_fits : (z : ℤ) → is_readable z ≡ true → is_i32 z ≡ true
readable_fits (pos n) h = h
readable_fits (negsuc n) h = grind (arith, nat_tests)

pub laws_below : LawsBelow → ReadAgain
laws_below l = record {
  texts = l.texts;
  verbatim = verbatim;
  dates = λ text d h. date_small (chars text) d ((l.dates (chars text) d).0 h);
  roles = role_again;
  numbers = l.numbers;
  small_numbers = λ text n z h one. readable_fits z (l.bounds text n z h (ap (λ m. m.value) (single_is n.value n.prefix n.suffix z one)));
  pages = l.pages;
  page = λ n small. l.page n (grind (arith, nat_tests));
  page_alone = l.page_alone;
  durations = λ text. l.durations (chars text);
  ranges = λ text. l.ranges (chars text);
  made_ranges = λ first second start end. l.ends (chars first) (chars second) (record { start = start; end = end });
}
  where
    verbatim : (text : List ℕ) → IsUtf8 text → AreReadable (verbatim_text text)
    verbatim [] u = rw chars-nil refl
    verbatim (b ∷ bs) u = l.chunk (b ∷ bs) Verbatim u (λ e. cc)
