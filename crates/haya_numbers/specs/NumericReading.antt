-- What a text reads as as a number, computed by its longest runs.
use Rattle.std.specs.Prelude.{◌≡◌, ℕ, zero, suc, ℤ, pos, neg_ℤ, Bool, true, false, ◌==◌, ◌&&◌, ◌||◌, ◌^◌, nat_lt, not, List, [], ◌∷◌, ◌++◌, length, if◌then◌else◌, Option, Some, None, option_map, Result, Ok, Err, ok_or}
use Rattle.std.specs.Result.{result_ok}
use Rattle.std.specs.Char.{is_whitespace}
use Rattle.std.specs.Str.{chars, encode_utf8_all, skip_leading_whitespace, all_ascii_digits}
use Rattle.std.specs.Str.Parse.{digits_value}
use Rattle.haya_numbers.specs.declared.numeric.NumericDelimiter.{NumericDelimiter}
use Rattle.haya_numbers.specs.declared.numeric.NumericDelimiter.TheVariants.{Comma, Ampersand, Hyphen}
use Rattle.haya_numbers.specs.declared.numeric.NumericError.{NumericError}
use Rattle.haya_numbers.specs.declared.numeric.NumericError.TheVariants.{NoNumber, UnexpectedCharactersAfterPostfix, NotADelimiter, MissingDelimiter}
use Rattle.haya_text.specs.Characters.{comma, hyphen, is_numeric, run, behind_run, begins_with}
use Rattle.haya_numbers.specs.Characters.{ampersand, en_dash, zero_digit, is_delimiter}
use Rattle.haya_numbers.specs.Numeric.{Item, ValueView, Single, SetOf, NumericView, is_memory}

-- the delimiter that a character is
abbrev pub delimiter_of : ℕ → Option NumericDelimiter
delimiter_of c =
    if c == comma then Some Comma
    else if c == ampersand then Some Ampersand
    else if c == hyphen || c == en_dash then Some Hyphen
    else None

-- The delimiter that a text of several characters is: a hyphen with anything after it, or one
-- character alone.
abbrev pub delimiter_read : List ℕ → Result NumericDelimiter NumericError
delimiter_read [] = Err MissingDelimiter
delimiter_read (c ∷ []) = ok_or (delimiter_of c) NotADelimiter
delimiter_read (c ∷ d ∷ cs) = if c == hyphen then Ok Hyphen else Err NotADelimiter

-- before a prefix ends: neither numeric nor a hyphen
abbrev pub is_affix : ℕ → Bool
is_affix c = not (is_numeric c || c == hyphen)

-- in a suffix: neither numeric nor white space
abbrev pub is_suffix : ℕ → Bool
is_suffix c = not (is_numeric c || is_whitespace c)

-- The zeros of a prefix: those at the front that a numeric character follows. So the last zero of a
-- number is its own.
abbrev pub spare_zeros : List ℕ → List ℕ
spare_zeros [] = []
spare_zeros (c ∷ cs) =
    if c == zero_digit && begins_with is_numeric cs then c ∷ spare_zeros cs else []

abbrev pub past_zeros : List ℕ → List ℕ
past_zeros [] = []
past_zeros (c ∷ cs) = if c == zero_digit && begins_with is_numeric cs then past_zeros cs else c ∷ cs

-- the prefix, and what stands behind it
abbrev pub prefix_run : List ℕ → List ℕ
prefix_run cs = run is_affix cs ++ spare_zeros (behind_run is_affix cs)

abbrev pub past_prefix : List ℕ → List ℕ
past_prefix cs = past_zeros (behind_run is_affix cs)

-- the value of a run: ASCII digits, at least one, below 2 ^ 31
abbrev pub magnitude : List ℕ → Option ℕ
magnitude [] = None
magnitude (c ∷ cs) =
    if all_ascii_digits (c ∷ cs) && nat_lt (digits_value 10 (c ∷ cs)) (2 ^ 31)
    then Some (digits_value 10 (c ∷ cs)) else None

abbrev pub past_sign : List ℕ → List ℕ
past_sign [] = []
past_sign (c ∷ cs) = if c == hyphen then cs else c ∷ cs

abbrev pub signed : Bool → ℕ → ℤ
signed true n = neg_ℤ (pos n)
signed false n = pos n

-- the number at the front, and what stands behind it
abbrev pub number_front : List ℕ → Option (ℤ × List ℕ)
number_front cs =
    option_map
    (λ n. (signed (begins_with (λ c. c == hyphen) cs) n, behind_run is_numeric (past_sign cs)))
    (magnitude (run is_numeric (past_sign cs)))

-- a number of a set with its delimiter: the run behind the number names it
abbrev pub delimited : ℤ → List ℕ → Item × List ℕ
delimited n rest =
    ((n, result_ok (delimiter_read (run is_delimiter rest))), behind_run is_delimiter rest)

-- the next number of a set, with its delimiter, and what stands behind both
abbrev pub item_front : List ℕ → Option (Item × List ℕ)
item_front cs =
    option_map (λ p. delimited p.0 (skip_leading_whitespace p.1))
    (number_front (skip_leading_whitespace cs))

-- a number without a delimiter ends its set
abbrev pub items_on : Option (Item × List ℕ) → (List ℕ → Option (List Item × List ℕ))
    → Option (List Item × List ℕ)
items_on None more = None
items_on (Some ((n, None), rest)) more = Some ((n, None) ∷ [], rest)
items_on (Some ((n, Some d), rest)) more = option_map (λ p. ((n, Some d) ∷ p.0, p.1)) (more rest)

-- the numbers of a set from the second on, at most so many, and what stands behind them
abbrev pub items_front : ℕ → List ℕ → Option (List Item × List ℕ)
items_front zero cs = None
items_front (suc most) cs = items_on (item_front cs) (items_front most)

-- each number takes a character at least, so the length of the text is enough
abbrev pub items_read : List ℕ → Option (List Item × List ℕ)
items_read cs = items_front (length cs) cs

-- behind a number, and behind the white space that follows it: a delimiter begins a set
abbrev pub set_from : ℤ → Option NumericDelimiter → List ℕ → Option (ValueView × List ℕ)
set_from n None rest = Some (Single n, rest)
set_from n (Some d) rest =
    option_map (λ p. (SetOf ((n, Some d) ∷ p.0), p.1)) (items_read (behind_run is_delimiter rest))

abbrev pub first_delimiter : List ℕ → Option NumericDelimiter
first_delimiter [] = None
first_delimiter (c ∷ cs) = delimiter_of c

-- an empty affix is none
abbrev pub affix : List ℕ → Option (List ℕ)
affix [] = None
affix (b ∷ bs) = Some (b ∷ bs)

-- the suffix, with the white space that stood behind the first number
abbrev pub suffix_with : List ℕ → List ℕ → Option (List ℕ)
suffix_with white [] = None
suffix_with white (c ∷ cs) = Some (encode_utf8_all (white ++ c ∷ cs))

-- the whole, where nothing is left behind the suffix
abbrev pub ended : NumericView → List ℕ → Result NumericView NumericError
ended v [] = Ok v
ended v (c ∷ cs) = Err UnexpectedCharactersAfterPostfix

abbrev pub suffixed : List ℕ → List ℕ → Option (ValueView × List ℕ)
    → Result NumericView NumericError
suffixed before white None = Err NoNumber
suffixed before white (Some (v, rest)) =
    ended (record {
      value = v;
      prefix = affix (encode_utf8_all before);
      suffix = suffix_with white (run is_suffix (skip_leading_whitespace rest));
    })
    (behind_run is_suffix (skip_leading_whitespace rest))

abbrev pub valued : List ℕ → Option (ℤ × List ℕ) → Result NumericView NumericError
valued before None = Err NoNumber
valued before (Some (n, rest)) =
    suffixed before (run is_whitespace rest)
    (set_from n (first_delimiter (skip_leading_whitespace rest)) (skip_leading_whitespace rest))

abbrev pub read_from : List ℕ → Result NumericView NumericError
read_from cs = valued (prefix_run cs) (number_front (past_prefix cs))

-- what the bytes of a text read as: a value, or the one fault
abbrev pub numeric_read : List ℕ → Result NumericView NumericError
numeric_read text = read_from (skip_leading_whitespace (chars text))

-- a fault other than out of memory is the text's
abbrev pub IsFaultOf : List ℕ → NumericError → Type 0
IsFaultOf text e = is_memory e ≡ false → numeric_read text ≡ Err e
