-- A number's text as its parts, and what it reads as.
use Rattle.std.specs.Prelude.{◌≡◌, ℕ, ◌<◌, ◌^◌, ℤ, pos, neg_ℤ, Bool, true, false, ◌==◌, List, [], ◌∷◌, ◌++◌, length, None, Some}
use Rattle.std.specs.Char.{is_whitespace}
use Rattle.std.specs.List.{list_all}
use Rattle.std.specs.Result.{result_ok}
use Rattle.std.specs.Str.{chars, encode_utf8_all, all_ascii_digits}
use Rattle.std.specs.Str.Parse.{digits_value}
use Rattle.haya_numbers.specs.declared.numeric.NumericDelimiter.{NumericDelimiter}
use Rattle.haya_numbers.specs.declared.numeric.NumericError.{NumericError}
use Rattle.haya_numbers.specs.declared.numeric.NumericError.TheVariants.{NoNumber, UnexpectedCharactersAfterPostfix}
use Rattle.haya_text.specs.Characters.{hyphen, is_numeric, begins_with}
use Rattle.haya_numbers.specs.Characters.{zero_digit, is_delimiter}
use Rattle.haya_numbers.specs.Numeric.{Item, ValueView, Single, SetOf, NumericView}
use Rattle.haya_numbers.specs.NumericReading.{delimiter_read, first_delimiter, is_affix, is_suffix, affix, suffix_with}

-- the text is a run of characters that pass the test, the longest, and then the rest
pub record IsRun (p : ℕ → Bool) (text front rest : List ℕ) : Type 0 where
  pub joined : text ≡ front ++ rest
  pub members : list_all p front ≡ true
  pub longest : begins_with p rest ≡ false

-- ASCII digits, at least one, that write a number below 2 ^ 31
pub record Spells (digits : List ℕ) (n : ℕ) : Type 0 where
  pub some : 0 < length digits
  pub ascii : all_ascii_digits digits ≡ true
  pub small : digits_value 10 digits < 2 ^ 31
  pub value : n ≡ digits_value 10 digits

-- the text is a number and then the rest: a run of numeric characters, perhaps behind a hyphen
pub data IsNumber : List ℕ → ℤ → List ℕ → Type 0 where
  Plain : {text rest : List ℕ} {n : ℤ} (digits : List ℕ) (m : ℕ) → IsRun is_numeric text digits rest
      → Spells digits m → n ≡ pos m → IsNumber text n rest
  Negated : {text rest : List ℕ} {n : ℤ} (behind digits : List ℕ) (m : ℕ) → text ≡ hyphen ∷ behind
      → IsRun is_numeric behind digits rest → Spells digits m → n ≡ neg_ℤ (pos m)
      → IsNumber text n rest

-- no number stands at the front
abbrev pub LacksNumber : List ℕ → Type 0
LacksNumber text = (n : ℤ) (rest : List ℕ) → IsNumber text n rest → ⊥

-- the text is a number of a set and then the rest: white space, the number, white space, and a
-- run of delimiter characters
pub record IsItem (text : List ℕ) (n : ℤ) (delimiters rest : List ℕ) : Type 0 where
  pub white : List ℕ
  pub at_number : List ℕ
  pub past_number : List ℕ
  pub gap : List ℕ
  pub at_delimiters : List ℕ
  pub before : IsRun is_whitespace text white at_number
  pub number : IsNumber at_number n past_number
  pub between : IsRun is_whitespace past_number gap at_delimiters
  pub run : IsRun is_delimiter at_delimiters delimiters rest

-- The text is numbers of a set and then the rest. The set goes on where the run behind a
-- number names a delimiter.
pub data AreItems : List ℕ → List Item → List ℕ → Type 0 where
  Last : {text rest : List ℕ} {items : List Item} (delimiters : List ℕ) (n : ℤ)
      → IsItem text n delimiters rest → result_ok (delimiter_read delimiters) ≡ None
      → items ≡ (n, None) ∷ [] → AreItems text items rest
  More : {text rest : List ℕ} {items : List Item} (delimiters behind : List ℕ) (n : ℤ)
      (d : NumericDelimiter) (more : List Item) → IsItem text n delimiters behind
      → result_ok (delimiter_read delimiters) ≡ Some d → AreItems behind more rest
      → items ≡ (n, Some d) ∷ more → AreItems text items rest

-- a number of the set is missing
pub data LacksItem : List ℕ → Type 0 where
  Here : {text : List ℕ} (white rest : List ℕ) → IsRun is_whitespace text white rest
      → LacksNumber rest → LacksItem text
  Later : {text : List ℕ} (delimiters behind : List ℕ) (n : ℤ) (d : NumericDelimiter)
      → IsItem text n delimiters behind → result_ok (delimiter_read delimiters) ≡ Some d
      → LacksItem behind → LacksItem text

-- Of the zeros before the rest, which are the prefix's, and what stands behind them: all, where a
-- numeric character follows, and otherwise all but the last.
pub data KeepsZeros : List ℕ → List ℕ → List ℕ → List ℕ → Type 0 where
  AllZeros : {zeros rest kept behind : List ℕ} → begins_with is_numeric rest ≡ true → kept ≡ zeros
      → behind ≡ rest → KeepsZeros zeros rest kept behind
  NoZeros : {zeros rest kept behind : List ℕ} → begins_with is_numeric rest ≡ false → zeros ≡ []
      → kept ≡ [] → behind ≡ rest → KeepsZeros zeros rest kept behind
  ButLast : {zeros rest kept behind : List ℕ} → begins_with is_numeric rest ≡ false
      → zeros ≡ kept ++ zero_digit ∷ [] → behind ≡ zero_digit ∷ rest
      → KeepsZeros zeros rest kept behind

-- the text is white space, a prefix, and then the rest
pub record IsPrefixed (text prefix rest : List ℕ) : Type 0 where
  pub white : List ℕ
  pub at_name : List ℕ
  pub name : List ℕ
  pub at_zeros : List ℕ
  pub zeros : List ℕ
  pub past_zeros : List ℕ
  pub kept : List ℕ
  pub before : IsRun is_whitespace text white at_name
  pub name_run : IsRun is_affix at_name name at_zeros
  pub zeros_run : IsRun (λ c. c == zero_digit) at_zeros zeros past_zeros
  pub keeps : KeepsZeros zeros past_zeros kept rest
  pub joined : prefix ≡ name ++ kept

-- Behind the first number and its white space the text is the rest of the value, and then the rest.
-- A delimiter character begins a set and names the first delimiter, whatever follows it in its run.
pub data IsValue : ℤ → List ℕ → ValueView → List ℕ → Type 0 where
  Alone : {n : ℤ} {text rest : List ℕ} {v : ValueView} → first_delimiter text ≡ None → v ≡ Single n
      → rest ≡ text → IsValue n text v rest
  Set : {n : ℤ} {text rest : List ℕ} {v : ValueView} (delimiters behind : List ℕ)
      (d : NumericDelimiter) (items : List Item) → first_delimiter text ≡ Some d
      → IsRun is_delimiter text delimiters behind → AreItems behind items rest
      → v ≡ SetOf ((n, Some d) ∷ items) → IsValue n text v rest

-- a set begins, and a number of it is missing
pub record LacksValue (text : List ℕ) : Type 0 where
  pub delimiters : List ℕ
  pub behind : List ℕ
  pub d : NumericDelimiter
  pub first : first_delimiter text ≡ Some d
  pub run : IsRun is_delimiter text delimiters behind
  pub lacks : LacksItem behind

-- the text is a prefix, a value and a suffix, and then the rest
pub record HasParts (text : List ℕ) (v : NumericView) (rest : List ℕ) : Type 0 where
  pub prefix : List ℕ
  pub at_number : List ℕ
  pub n : ℤ
  pub past_number : List ℕ
  pub white : List ℕ
  pub at_value : List ℕ
  pub past_value : List ℕ
  pub gap : List ℕ
  pub at_suffix : List ℕ
  pub suffix : List ℕ
  pub prefixed : IsPrefixed text prefix at_number
  pub number : IsNumber at_number n past_number
  pub between : IsRun is_whitespace past_number white at_value
  pub value : IsValue n at_value v.value past_value
  pub before_suffix : IsRun is_whitespace past_value gap at_suffix
  pub suffix_run : IsRun is_suffix at_suffix suffix rest
  pub prefix_bytes : v.prefix ≡ affix (encode_utf8_all prefix)
  pub suffix_bytes : v.suffix ≡ suffix_with white suffix

-- the bytes read as the value
abbrev pub ReadsAs : List ℕ → NumericView → Type 0
ReadsAs text v = HasParts (chars text) v []

-- a first number, and the white space behind it
pub record HasFirst (text : List ℕ) (at_value : List ℕ) : Type 0 where
  pub prefix : List ℕ
  pub at_number : List ℕ
  pub n : ℤ
  pub past_number : List ℕ
  pub white : List ℕ
  pub prefixed : IsPrefixed text prefix at_number
  pub number : IsNumber at_number n past_number
  pub between : IsRun is_whitespace past_number white at_value

-- the one fault of a text that reads as no value
pub data IsFault : List ℕ → NumericError → Type 0 where
  NoFirst : {text : List ℕ} {e : NumericError} (prefix at_number : List ℕ)
      → IsPrefixed text prefix at_number → LacksNumber at_number → e ≡ NoNumber → IsFault text e
  NoOther : {text : List ℕ} {e : NumericError} (at_value : List ℕ) → HasFirst text at_value
      → LacksValue at_value → e ≡ NoNumber → IsFault text e
  Behind : {text : List ℕ} {e : NumericError} (v : NumericView) (c : ℕ) (rest : List ℕ)
      → HasParts text v (c ∷ rest) → e ≡ UnexpectedCharactersAfterPostfix → IsFault text e
