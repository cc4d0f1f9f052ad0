-- The bytes of numbers in words and letters.
use Rattle.std.specs.Prelude.{ℕ, zero, suc, ℤ, pos, negsuc, List, [], ◌∷◌, ◌++◌, ◌&&◌, Option, unwrap_or, codes, nat_lt, if◌then◌else◌, ◌/◌, ◌%◌}
use Rattle.std.specs.Fmt.{decimal, signed_decimal}
use Rattle.haya_numbers.specs.declared.numeric.form.NumberForm.{NumberForm}
use Rattle.haya_numbers.specs.declared.numeric.form.NumberForm.TheVariants.{Numeric, Ordinal, LongOrdinal, Roman}
use Rattle.haya_numbers.specs.Numeric.{ValueView}
use Rattle.haya_numbers.specs.NumericPrinted.{delimiter_text, text_or_nothing, value_text}

-- what Roman letters are worth, greatest first
abbrev pub roman_letters : List (ℕ × List ℕ)
roman_letters =
    (1000, codes "m") ∷ (900, codes "cm") ∷ (500, codes "d") ∷ (400, codes "cd")
    ∷ (100, codes "c") ∷ (90, codes "xc") ∷ (50, codes "l") ∷ (40, codes "xl")
    ∷ (10, codes "x") ∷ (9, codes "ix") ∷ (5, codes "v") ∷ (4, codes "iv") ∷ (1, codes "i") ∷ []

-- so many copies of these letters
abbrev pub copies : ℕ → List ℕ → List ℕ
copies zero letters = []
copies (suc n) letters = copies n letters ++ letters

-- each of the letters as often as what is left is worth them
abbrev pub letters_for : List (ℕ × List ℕ) → ℕ → List ℕ
letters_for [] n = []
letters_for ((value, letters) ∷ rest) n = copies (n / value) letters ++ letters_for rest (n % value)

abbrev pub roman_text : ℕ → List ℕ
roman_text n = letters_for roman_letters n

-- the digits, and what follows them in an ordinal number
abbrev pub ordinal_text : (ℤ → Option (List ℕ)) → ℤ → List ℕ
ordinal_text ending n = signed_decimal n ++ text_or_nothing (ending n)

-- Roman letters write 1 to 3999
abbrev pub roman_or_digits : ℤ → List ℕ
roman_or_digits (pos n) = if nat_lt 0 n && nat_lt n 4000 then roman_text n else decimal n
roman_or_digits (negsuc n) = signed_decimal (negsuc n)

-- a number in a form, by the endings and the words of ordinal numbers
abbrev pub formed_number : NumberForm → (ℤ → Option (List ℕ)) → (ℤ → Option (List ℕ)) → ℤ → List ℕ
formed_number Numeric ending word n = signed_decimal n
formed_number Ordinal ending word n = ordinal_text ending n
formed_number LongOrdinal ending word n = unwrap_or (word n) (ordinal_text ending n)
formed_number Roman ending word n = roman_or_digits n

-- a value, each number by its form
abbrev pub formed_value : (ℤ → List ℕ) → ValueView → List ℕ
formed_value number v = value_text number delimiter_text v
