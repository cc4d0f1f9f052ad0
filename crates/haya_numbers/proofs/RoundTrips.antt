-- Numbers and pages that are equal by test, and the texts from which they are read again.
use Rattle.std.proofs.Common.{◌≡◌, ℕ, Bool, true, false, ◌&&◌, List, [], ◌∷◌, Option, None, Some, Result, Ok, Err, refl, ap, sym, ◌∙◌}
use Rattle.std.specs.Prelude.{if◌then◌else◌}
use Rattle.std.specs.Option.{option_eq}
use Rattle.std.specs.Ordering.{int_eq}
use Rattle.std.specs.Str.{bytes_eq, chars}
use Rattle.std.proofs.lemmas.Cmp.{nat_list_eq_equiv}
use Rattle.std.proofs.lemmas.Slice.Eq.{bytes_eq-Decides}
use Rattle.haya_text.proofs.Tells.{Same, Same-along, Same-both, and-both, both-and}
use Rattle.haya_numbers.specs.declared.numeric.NumericDelimiter.{NumericDelimiter}
use Rattle.haya_numbers.specs.declared.numeric.NumericDelimiter.TheVariants.{Comma, Ampersand, Hyphen}
use Rattle.haya_numbers.specs.declared.numeric.NumericError.{NumericError}
use Rattle.haya_numbers.specs.declared.page.PageRangesPartErr.{PageRangesPartErr}
use Rattle.haya_numbers.specs.Numeric.{Item, ValueView, Single, SetOf, NumericView}
use Rattle.haya_numbers.specs.NumericBack.{reads_back}
use Rattle.haya_numbers.specs.NumericPrinted.{shown_numeric}
use Rattle.haya_numbers.specs.NumericReading.{numeric_read}
use Rattle.haya_numbers.specs.NumericRoundTrip.{exact_text, reads_as, round_trip_text, same_delimiter, same_items, same_numeric, same_value}
use Rattle.haya_numbers.specs.Pages as part
use Rattle.haya_numbers.specs.Pages.{PartView}
use Rattle.haya_numbers.specs.PagesBack.{are_readable}
use Rattle.haya_numbers.specs.PagesPrinted.{shown_pages}
use Rattle.haya_numbers.specs.PagesReading.{pages_read}
use Rattle.haya_numbers.specs.PagesRoundTrip.{exact_pages, same_pages, same_part}
use Rattle.haya_numbers.specs.PagesRoundTrip as pages
use Rattle.haya_numbers.proofs.Backs.{numeric-back}
use Rattle.haya_numbers.proofs.Equal.{ints-tell}
use Rattle.haya_numbers.proofs.ReadsBack.{pages_back}

delimiters_same : (d e : NumericDelimiter) → Same (same_delimiter d e) d e
delimiters_same Comma Comma = (λ _. refl, λ _. refl)
delimiters_same Comma Ampersand = (λ h. cc, λ h. cc)
delimiters_same Comma Hyphen = (λ h. cc, λ h. cc)
delimiters_same Ampersand Comma = (λ h. cc, λ h. cc)
delimiters_same Ampersand Ampersand = (λ _. refl, λ _. refl)
delimiters_same Ampersand Hyphen = (λ h. cc, λ h. cc)
delimiters_same Hyphen Comma = (λ h. cc, λ h. cc)
delimiters_same Hyphen Ampersand = (λ h. cc, λ h. cc)
delimiters_same Hyphen Hyphen = (λ _. refl, λ _. refl)

options_same : {X : Type 0} (E : X → X → Bool) → ((a b : X) → Same (E a b) a b) → (o p : Option X) → Same (option_eq E o p) o p
options_same E each None None = (λ _. refl, λ _. refl)
options_same E each None (Some b) = (λ h. cc, λ h. cc)
options_same E each (Some a) None = (λ h. cc, λ h. cc)
options_same E each (Some a) (Some b) = (λ h. ap (λ v. Some v) ((each a b).0 h), λ h. let e : a ≡ b = cc in (each a b).1 e)

texts_same : (xs ys : List ℕ) → Same (bytes_eq xs ys) xs ys
texts_same xs ys = ((bytes_eq-Decides xs ys).0, λ h. rw h (nat_list_eq_equiv.refl ys))

items_same : (is js : List Item) → Same (same_items is js) is js
items_same [] [] = (λ _. refl, λ _. refl)
items_same [] (j ∷ js) = (λ h. cc, λ h. cc)
items_same (i ∷ is) [] = (λ h. cc, λ h. cc)
items_same ((m, c) ∷ is) ((n, d) ∷ js) =
    let left : Item = (m, c) in
    let right : Item = (n, d) in
    let more = items_same is js in
    let one = Same-both _ _ _ _ _ _ (ints-tell m n) (options_same same_delimiter delimiters_same c d) in (
      λ h.
          let first = and-both (int_eq m n) _ h in
          let second = and-both (option_eq same_delimiter c d) (same_items is js) first.1 in
          let item : left ≡ right = one.0 (both-and (int_eq m n) (option_eq same_delimiter c d) first.0 second.0) in
          let rest : is ≡ js = more.0 second.1 in
          cc,
      λ h.
          let item : left ≡ right = cc in
          let rest : is ≡ js = cc in
          let both = and-both (int_eq m n) (option_eq same_delimiter c d) (one.1 item) in
          both-and (int_eq m n) _ both.0 (both-and (option_eq same_delimiter c d) (same_items is js) both.1 (more.1 rest)),
    )

values_same : (v w : ValueView) → Same (same_value v w) v w
values_same (Single m) (Single n) = (λ h. ap Single ((ints-tell m n).0 h), λ h. let e : m ≡ n = cc in (ints-tell m n).1 e)
values_same (Single m) (SetOf js) = (λ h. cc, λ h. cc)
values_same (SetOf is) (Single n) = (λ h. cc, λ h. cc)
values_same (SetOf is) (SetOf js) = (λ h. ap SetOf ((items_same is js).0 h), λ h. let e : is ≡ js = cc in (items_same is js).1 e)

pub numbers_same : (n m : NumericView) → Same (same_numeric n m) n m
numbers_same n m =
    Same-along {Q = NumericView} _ (λ (p : ValueView × (Option (List ℕ) × Option (List ℕ))). record { value = p.0; prefix = p.1.0; suffix = p.1.1 }) (λ v. (v.value, (v.prefix, v.suffix))) _ _ refl refl
    (Same-both _ _ _ _ _ _ (values_same n.value m.value) (Same-both _ _ _ _ _ _ (options_same bytes_eq texts_same n.prefix m.prefix) (options_same bytes_eq texts_same n.suffix m.suffix)))

two_same : (f : NumericView → NumericView → PartView) → ((a b c d : NumericView) → f a b ≡ f c d → (a ≡ c) × (b ≡ d)) → (a b c d : NumericView) → Same (same_numeric a c && same_numeric b d) (f a b) (f c d)
two_same f apart a b c d = (
  λ h. let both = and-both (same_numeric a c) (same_numeric b d) h in let x : a ≡ c = (numbers_same a c).0 both.0 in let y : b ≡ d = (numbers_same b d).0 both.1 in cc,
  λ h. let e = apart a b c d h in both-and (same_numeric a c) (same_numeric b d) ((numbers_same a c).1 e.0) ((numbers_same b d).1 e.1),
)

parts_same : (p q : PartView) → Same (same_part p q) p q
parts_same part.Ampersand part.Ampersand = (λ _. refl, λ _. refl)
parts_same part.Ampersand part.Comma = (λ h. cc, λ h. cc)
parts_same part.Ampersand (part.EscapedRange c d) = (λ h. cc, λ h. cc)
parts_same part.Ampersand (part.SinglePage c) = (λ h. cc, λ h. cc)
parts_same part.Ampersand (part.Range c d) = (λ h. cc, λ h. cc)
parts_same part.Comma part.Ampersand = (λ h. cc, λ h. cc)
parts_same part.Comma part.Comma = (λ _. refl, λ _. refl)
parts_same part.Comma (part.EscapedRange c d) = (λ h. cc, λ h. cc)
parts_same part.Comma (part.SinglePage c) = (λ h. cc, λ h. cc)
parts_same part.Comma (part.Range c d) = (λ h. cc, λ h. cc)
parts_same (part.EscapedRange a b) part.Ampersand = (λ h. cc, λ h. cc)
parts_same (part.EscapedRange a b) part.Comma = (λ h. cc, λ h. cc)
parts_same (part.EscapedRange a b) (part.EscapedRange c d) = two_same part.EscapedRange (λ a b c d h. (let x : a ≡ c = cc in x, let y : b ≡ d = cc in y)) a b c d
parts_same (part.EscapedRange a b) (part.SinglePage c) = (λ h. cc, λ h. cc)
parts_same (part.EscapedRange a b) (part.Range c d) = (λ h. cc, λ h. cc)
parts_same (part.SinglePage a) part.Ampersand = (λ h. cc, λ h. cc)
parts_same (part.SinglePage a) part.Comma = (λ h. cc, λ h. cc)
parts_same (part.SinglePage a) (part.EscapedRange c d) = (λ h. cc, λ h. cc)
parts_same (part.SinglePage a) (part.SinglePage c) = (λ h. ap part.SinglePage ((numbers_same a c).0 h), λ h. let e : a ≡ c = cc in (numbers_same a c).1 e)
parts_same (part.SinglePage a) (part.Range c d) = (λ h. cc, λ h. cc)
parts_same (part.Range a b) part.Ampersand = (λ h. cc, λ h. cc)
parts_same (part.Range a b) part.Comma = (λ h. cc, λ h. cc)
parts_same (part.Range a b) (part.EscapedRange c d) = (λ h. cc, λ h. cc)
parts_same (part.Range a b) (part.SinglePage c) = (λ h. cc, λ h. cc)
parts_same (part.Range a b) (part.Range c d) = two_same part.Range (λ a b c d h. (let x : a ≡ c = cc in x, let y : b ≡ d = cc in y)) a b c d

pub pages_same : (ps qs : List PartView) → Same (same_pages ps qs) ps qs
pages_same [] [] = (λ _. refl, λ _. refl)
pages_same [] (q ∷ qs) = (λ h. cc, λ h. cc)
pages_same (p ∷ ps) [] = (λ h. cc, λ h. cc)
pages_same (p ∷ ps) (q ∷ qs) =
    let more = pages_same ps qs in
    let one = parts_same p q in (
      λ h. let both = and-both (same_part p q) (same_pages ps qs) h in let x : p ≡ q = one.0 both.0 in let y : ps ≡ qs = more.0 both.1 in cc,
      λ h. let x : p ≡ q = cc in let y : ps ≡ qs = cc in both-and (same_part p q) (same_pages ps qs) (one.1 x) (more.1 y),
    )

-- ---- what reads as a value

number_read_as : (text : List ℕ) (n : NumericView) → reads_as text n ≡ true → numeric_read text ≡ Ok n
number_read_as text n h = by (numeric_read text) refl
  where
    by : (r : Result NumericView NumericError) → numeric_read text ≡ r → numeric_read text ≡ Ok n
    by (Ok m) is = let same = rw is at h in is ∙ ap Ok ((numbers_same m n).0 same)
    by (Err e) is = let no = rw is at h in cc

pages_read_as : (text : List ℕ) (ps : List PartView) → pages.reads_as text ps ≡ true → pages_read (chars text) ≡ Ok ps
pages_read_as text ps h = by (pages_read (chars text)) refl
  where
    by : (r : Result (List PartView) PageRangesPartErr) → pages_read (chars text) ≡ r → pages_read (chars text) ≡ Ok ps
    by (Ok qs) is = let same = rw is at h in is ∙ ap Ok ((pages_same qs ps).0 same)
    by (Err e) is = let no = rw is at h in cc

-- where the exact text reads as the value, so does the other
pub number_round_trip : (n : NumericView) → numeric_read (exact_text n) ≡ Ok n → numeric_read (round_trip_text n) ≡ Ok n
number_round_trip n exact = by (reads_as (shown_numeric n) n) refl
  where
    by : (b : Bool) → reads_as (shown_numeric n) n ≡ b → numeric_read (if b then shown_numeric n else exact_text n) ≡ Ok n
    by true is = number_read_as (shown_numeric n) n is
    by false is = exact

pub pages_round_trip : (ps : List PartView) → pages_read (chars (exact_pages ps)) ≡ Ok ps → pages_read (chars (pages.round_trip_text ps)) ≡ Ok ps
pages_round_trip ps exact = by (pages.reads_as (shown_pages ps) ps) refl
  where
    by : (b : Bool) → pages.reads_as (shown_pages ps) ps ≡ b → pages_read (chars (if b then shown_pages ps else exact_pages ps)) ≡ Ok ps
    by true is = pages_read_as (shown_pages ps) ps is
    by false is = exact

-- what is shown reads as the value where the test of reading back says so
pub number_shown : (n : NumericView) → reads_back n ≡ true → round_trip_text n ≡ shown_numeric n
number_shown n h =
    let read = numeric-back n h in
    let same : reads_as (shown_numeric n) n ≡ true = rw read ((numbers_same n n).1 refl) in
    rw same refl

pub pages_shown : (ps : List PartView) → are_readable ps ≡ true → pages.round_trip_text ps ≡ shown_pages ps
pages_shown ps h =
    let read = pages_back ps h in
    let same : pages.reads_as (shown_pages ps) ps ≡ true = rw read ((pages_same ps ps).1 refl) in
    rw same refl

-- ---- tests that tell the same

pub agree : {Y : Type 0} {p q : Y} (b c : Bool) → Same b p q → Same c p q → b ≡ c
agree true c h k = sym (k.1 (h.0 refl))
agree false true h k = h.1 (k.0 refl)
agree false false h k = refl
