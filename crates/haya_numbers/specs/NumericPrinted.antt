-- The bytes that numbers are printed as.
use Rattle.std.specs.Prelude.{ℕ, ℤ, Bool, true, false, List, [], ◌∷◌, ◌++◌, Option, unwrap_or, option_map, flat_map}
use Rattle.std.specs.Fmt.{signed_decimal}
use Rattle.haya_numbers.specs.declared.numeric.NumericDelimiter.{NumericDelimiter}
use Rattle.haya_numbers.specs.declared.numeric.NumericDelimiter.TheVariants.{Comma, Ampersand, Hyphen}
use Rattle.haya_text.specs.Characters.{comma, hyphen}
use Rattle.haya_numbers.specs.Characters.{ampersand, blank}
use Rattle.haya_numbers.specs.Numeric.{Item, ValueView, Single, SetOf, NumericView}

-- `as_char`
abbrev pub delimiter_char : NumericDelimiter → ℕ
delimiter_char Comma = comma
delimiter_char Ampersand = ampersand
delimiter_char Hyphen = hyphen

-- the en dash in UTF-8
abbrev pub en_dash_bytes : List ℕ
en_dash_bytes = 226 ∷ 128 ∷ 147 ∷ []

-- what is shown of a delimiter
abbrev pub delimiter_text : NumericDelimiter → List ℕ
delimiter_text Comma = comma ∷ blank ∷ []
delimiter_text Ampersand = blank ∷ ampersand ∷ blank ∷ []
delimiter_text Hyphen = en_dash_bytes

-- the bytes of a text that may be missing
abbrev pub text_or_nothing : Option (List ℕ) → List ℕ
text_or_nothing t = unwrap_or t []

-- a number of a set, and the delimiter that follows it
abbrev pub item_text : (ℤ → List ℕ) → (NumericDelimiter → List ℕ) → Item → List ℕ
item_text number delimiter i = number i.0 ++ text_or_nothing (option_map delimiter i.1)

-- a value, by the texts of its numbers and of its delimiters
abbrev pub value_text : (ℤ → List ℕ) → (NumericDelimiter → List ℕ) → ValueView → List ℕ
value_text number delimiter (Single n) = number n
value_text number delimiter (SetOf items) = flat_map (item_text number delimiter) items

-- what is written for a delimiter: for a machine its character in ASCII, otherwise what is
-- shown
abbrev pub formatted_delimiter : Bool → NumericDelimiter → List ℕ
formatted_delimiter true d = delimiter_char d ∷ []
formatted_delimiter false d = delimiter_text d

-- what is written for a value, for a machine or not
abbrev pub formatted_value : Bool → ValueView → List ℕ
formatted_value machine_readable v =
    value_text signed_decimal (formatted_delimiter machine_readable) v

-- a number with its affixes
abbrev pub shown_numeric : NumericView → List ℕ
shown_numeric n =
    text_or_nothing n.prefix ++ formatted_value false n.value ++ text_or_nothing n.suffix
