-- Numbers and pages of fields.
use Rattle.std.specs.Prelude.{ℕ, List, Option, option_map, encode_utf8_all}
use Rattle.std.specs.Result.{result_ok}
use Rattle.std.specs.Str.{chars}
use Rattle.haya_bibtex_values.specs.PageTexts.{single_hyphens}
use Rattle.haya_numbers.specs.Numeric.{NumericView}
use Rattle.haya_numbers.specs.NumericReading.{numeric_read}
use Rattle.haya_numbers.specs.Pages.{PartView}
use Rattle.haya_numbers.specs.PagesReading.{pages_read}
use Rattle.haya_values.specs.MaybeTyped.{TypedOrText, typed_or_text}
use Rattle.haya_bibtex_fields.specs.FieldTexts.{plain_in}

-- the number that a text writes, or the text
abbrev pub number_of : List ℕ → TypedOrText NumericView
number_of text = typed_or_text (result_ok (numeric_read text)) text

abbrev pub number_in : List ℕ → Option (TypedOrText NumericView)
number_in text = option_map number_of (plain_in text)

-- a text with a hyphen for each run of hyphens, dashes and minus signs
abbrev pub with_hyphens : List ℕ → List ℕ
with_hyphens text = encode_utf8_all (single_hyphens (chars text))

-- the pages that a text writes, or the text
abbrev pub pages_of : List ℕ → TypedOrText (List PartView)
pages_of text = typed_or_text (result_ok (pages_read (chars text))) text

abbrev pub pages_in : List ℕ → Option (TypedOrText (List PartView))
pages_in text = option_map (λ t. pages_of (with_hyphens t)) (plain_in text)
