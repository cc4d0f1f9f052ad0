-- Numbers, and values that are typed or a text, that are read from what is printed of them.
use Rattle.std.proofs.Common.{◌≡◌, ℕ, ℤ, pos, negsuc, List, [], ◌∷◌, Option, None, Some, Ok, refl, sym, ap, ◌∙◌}
use Rattle.haya_numbers.specs.Numeric.{NumericView, ValueView, Single, SetOf, single_number, without_affixes}
use Rattle.haya_numbers.specs.Pages.{PartView, SinglePage, Ampersand, Comma, EscapedRange, Range, page_of}
use Rattle.haya_values.specs.MaybeTyped.{TypedOrText, Typed, Text}
use Rattle.haya_json.specs.Values.{number_of, number_or_text_of, pages_or_text_of, typed_by}
use Rattle.haya_json.specs.Printed.{below_zero, number_json, number_or_text_json, page_below_zero, pages_json, typed_json}
use Rattle.haya_json.specs.Readable.{AreReadablePages, IsReadableNumber, IsReadableNumberOrText, IsReadableTyped}
use Rattle.haya_json.proofs.Wholes.{whole_back}

-- one number is that number without affixes
pub single_is : (v : ValueView) (prefix suffix : Option (List ℕ)) (z : ℤ)
    → single_number (record { value = v; prefix = prefix; suffix = suffix }) ≡ Some z
    → record { value = v; prefix = prefix; suffix = suffix } ≡ without_affixes (Single z)
single_is (Single n) None None z h = let same : n ≡ z = cc in ap (λ m. without_affixes (Single m)) same
single_is (Single n) None (Some s) z h = cc
single_is (Single n) (Some p) s z h = cc
single_is (SetOf ns) None None z h = cc
single_is (SetOf ns) None (Some s) z h = cc
single_is (SetOf ns) (Some p) s z h = cc

pub number_back : (n : NumericView) → IsReadableNumber n → number_of (number_json n) ≡ Ok n
unfolding number_of number_json
number_back n back = by (single_number n) refl
  where
    by : (o : Option ℤ) → single_number n ≡ o → number_of (number_json n) ≡ Ok n
    by None is = let read = rw is at back in rw (is, read) refl
    by (Some z) is =
        let fits = rw is at back in
        rw (is, whole_back z fits) (ap Ok (sym (single_is n.value n.prefix n.suffix z is)))

pub number_or_text_back : (v : TypedOrText NumericView) → IsReadableNumberOrText v → number_or_text_of (number_or_text_json v) ≡ Ok v
unfolding number_or_text_of number_or_text_json number_json
number_or_text_back (Text text) none = rw none refl
number_or_text_back (Typed n) back = by (single_number n) refl
  where
    by : (o : Option ℤ) → single_number n ≡ o → number_or_text_of (number_or_text_json (Typed n)) ≡ Ok (Typed n)
    by None is = let read = rw is at back in rw (is, read) refl
    by (Some z) is =
        let fits = rw is at back in
        rw (is, whole_back z fits) (ap (λ m. Ok (Typed m)) (sym (single_is n.value n.prefix n.suffix z is)))

pub typed_back : {V : Type 0} (reads : List ℕ → Option V) (show : V → List ℕ) (v : TypedOrText V) → IsReadableTyped reads show v → typed_by reads (typed_json show v) ≡ Ok v
unfolding typed_json
typed_back reads show (Typed v) back = rw back refl
typed_back reads show (Text text) none = rw none refl

-- a page below 0 is its number
page_is : (ps : List PartView) (z : ℤ) → page_below_zero ps ≡ Some z → page_of z ∷ [] ≡ ps
page_is [] z h = cc
page_is (Ampersand ∷ ps) z h = cc
page_is (Comma ∷ ps) z h = cc
page_is (EscapedRange a b ∷ ps) z h = cc
page_is (Range a b ∷ ps) z h = cc
page_is (SinglePage n ∷ p ∷ ps) z h = cc
page_is (SinglePage n ∷ []) z h = by (single_number n) refl h
  where
    by : (o : Option ℤ) → single_number n ≡ o → below_zero o ≡ Some z → page_of z ∷ [] ≡ SinglePage n ∷ []
    by None is k = cc
    by (Some (pos m)) is k = cc
    by (Some (negsuc m)) is k =
        let same : negsuc m ≡ z = cc in
        ap (λ v. SinglePage v ∷ []) (sym (single_is n.value n.prefix n.suffix z (is ∙ ap Some same)))

pub pages_back : (v : TypedOrText (List PartView)) → AreReadablePages v → pages_or_text_of (pages_json v) ≡ Ok v
unfolding pages_or_text_of pages_json
pages_back (Text text) none = rw none refl
pages_back (Typed ps) back = by (page_below_zero ps) refl
  where
    by : (o : Option ℤ) → page_below_zero ps ≡ o → pages_or_text_of (pages_json (Typed ps)) ≡ Ok (Typed ps)
    by None is = let read = rw is at back in rw (is, read) refl
    by (Some z) is = let fits = rw is at back in rw (is, whole_back z fits) (ap (λ qs. Ok (Typed qs)) (page_is ps z is))
