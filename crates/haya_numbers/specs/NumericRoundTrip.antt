-- The text of a number from which the number is read again.
use Rattle.std.specs.Prelude.{ℕ, Bool, true, false, ◌&&◌, List, [], ◌∷◌, ◌++◌, Option, None, Some, option_map, flat_map, if◌then◌else◌}
use Rattle.std.specs.Char.{is_whitespace}
use Rattle.std.specs.Fmt.{signed_decimal}
use Rattle.std.specs.Option.{option_eq}
use Rattle.std.specs.Ordering.{int_eq}
use Rattle.std.specs.Result.{result_ok}
use Rattle.std.specs.Str.{bytes_eq, chars, encode_utf8_all, skip_leading_whitespace}
use Rattle.haya_numbers.specs.declared.numeric.NumericDelimiter.{NumericDelimiter}
use Rattle.haya_numbers.specs.declared.numeric.NumericDelimiter.TheVariants.{Comma, Ampersand, Hyphen}
use Rattle.haya_text.specs.Characters.{run, begins_with}
use Rattle.haya_numbers.specs.Characters.{blank, is_delimiter}
use Rattle.haya_numbers.specs.Numeric.{Item, ValueView, Single, SetOf, NumericView}
use Rattle.haya_numbers.specs.NumericPrinted.{delimiter_char, en_dash_bytes, item_text, shown_numeric, text_or_nothing}
use Rattle.haya_numbers.specs.NumericReading.{numeric_read}

-- the white space before a text, and the text behind it
abbrev pub leading_white : List ℕ → List ℕ
leading_white text = encode_utf8_all (run is_whitespace (chars text))

abbrev pub behind_white : List ℕ → List ℕ
behind_white text = encode_utf8_all (skip_leading_whitespace (chars text))

-- a delimiter's character in ASCII, and a blank
abbrev pub spaced_delimiter : NumericDelimiter → List ℕ
spaced_delimiter d = delimiter_char d ∷ blank ∷ []

-- What ends a set before this text: nothing, or where the text begins with a delimiter, a run of
-- characters that is none, and a blank.
abbrev pub set_end : List ℕ → List ℕ
set_end text =
    if begins_with is_delimiter (chars text) then en_dash_bytes ++ (en_dash_bytes ++ blank ∷ [])
    else []

-- A value with a suffix. Of a set the white space that begins the suffix stands behind the first
-- number, which is where it is read from, and each delimiter has a blank behind it.
abbrev pub exact_value : ValueView → List ℕ → List ℕ
exact_value (Single n) suffix = signed_decimal n ++ suffix
exact_value (SetOf []) suffix = suffix
exact_value (SetOf ((n, d) ∷ items)) suffix =
    signed_decimal n ++ (leading_white suffix
    ++ (text_or_nothing (option_map spaced_delimiter d)
    ++ (flat_map (item_text signed_decimal spaced_delimiter) items
    ++ (set_end (behind_white suffix) ++ behind_white suffix))))

-- a text that reads as the number, if any does
abbrev pub exact_text : NumericView → List ℕ
exact_text n = text_or_nothing n.prefix ++ exact_value n.value (text_or_nothing n.suffix)

-- ---- equal numbers, as a test

abbrev pub same_delimiter : NumericDelimiter → NumericDelimiter → Bool
same_delimiter Comma Comma = true
same_delimiter Ampersand Ampersand = true
same_delimiter Hyphen Hyphen = true
same_delimiter _ _ = false

abbrev pub same_items : List Item → List Item → Bool
same_items [] [] = true
same_items (i ∷ is) (j ∷ js) =
    int_eq i.0 j.0 && (option_eq same_delimiter i.1 j.1 && same_items is js)
same_items _ _ = false

abbrev pub same_value : ValueView → ValueView → Bool
same_value (Single n) (Single m) = int_eq n m
same_value (SetOf is) (SetOf js) = same_items is js
same_value _ _ = false

abbrev pub same_numeric : NumericView → NumericView → Bool
same_numeric n m =
    same_value n.value m.value
    && (option_eq bytes_eq n.prefix m.prefix && option_eq bytes_eq n.suffix m.suffix)

-- ---- the text

-- whether a text reads as the number
abbrev pub reads_as : List ℕ → NumericView → Bool
reads_as text n = by (result_ok (numeric_read text))
  where
    by : Option NumericView → Bool
    by None = false
    by (Some m) = same_numeric m n

-- `round_trip_text`: what is shown of the number where that reads as it, otherwise the exact text
abbrev pub round_trip_text : NumericView → List ℕ
round_trip_text n = if reads_as (shown_numeric n) n then shown_numeric n else exact_text n
