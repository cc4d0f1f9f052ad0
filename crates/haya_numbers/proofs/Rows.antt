-- The definitions on worked rows.
use Rattle.std.proofs.Common.{◌≡◌, refl, [], ◌∷◌, Ok, Err, Some, None, pos, negsuc, true, false}
use Rattle.std.specs.Prelude.{codes}
use Rattle.std.specs.Char.{encode_utf8}
use Rattle.std.specs.Str.{chars}
use Rattle.ucd_category.proofs.Computing.{ucd_category}
use Rattle.haya_numbers.specs.declared.numeric.NumericDelimiter.TheVariants.{Ampersand, Comma, Hyphen}
use Rattle.haya_numbers.specs.declared.numeric.NumericError.TheVariants.{NoNumber, UnexpectedCharactersAfterPostfix}
use Rattle.haya_text.specs.Characters.{is_numeric}
use Rattle.haya_numbers.specs.Numeric.{NumericView, Single, SetOf, without_affixes}
use Rattle.haya_numbers.specs.NumericBack.{is_kept, value_reads_back}
use Rattle.haya_numbers.specs.NumericForms.{roman_text}
use Rattle.haya_numbers.specs.NumericReading.{numeric_read}

digit : is_numeric 48 ≡ true
unfolding ucd_category
digit = refl

empty : numeric_read [] ≡ Err NoNumber
unfolding ucd_category chars encode_utf8
empty = refl

one : numeric_read (codes "34") ≡ Ok (without_affixes (Single (pos 34)))
unfolding ucd_category chars encode_utf8
one = refl

set : numeric_read (codes "34,37--39") ≡ Ok (without_affixes (SetOf ((pos 34, Some Comma) ∷ (pos 37, Some Hyphen) ∷ (pos 39, None) ∷ [])))
unfolding ucd_category chars encode_utf8
set = refl

least : numeric_read (codes "-2147483648") ≡ Err NoNumber
unfolding ucd_category chars encode_utf8
least = refl

blanks : numeric_read (codes "   ") ≡ Err NoNumber
unfolding ucd_category chars encode_utf8
blanks = refl

word : numeric_read (codes "second") ≡ Err NoNumber
unfolding ucd_category chars encode_utf8
word = refl

edition : numeric_read (codes "2nd edition") ≡ Err UnexpectedCharactersAfterPostfix
unfolding ucd_category chars encode_utf8
edition = refl

unended : numeric_read (codes "1,2,") ≡ Err NoNumber
unfolding ucd_category chars encode_utf8
unended = refl

two_commas : numeric_read (codes "1,2,,") ≡ Ok (without_affixes (SetOf ((pos 1, Some Comma) ∷ (pos 2, None) ∷ [])))
unfolding ucd_category chars encode_utf8
two_commas = refl

hyphen_behind_comma : numeric_read (codes "1,-2") ≡ Ok (without_affixes (SetOf ((pos 1, Some Comma) ∷ (pos 2, None) ∷ [])))
unfolding ucd_category chars encode_utf8
hyphen_behind_comma = refl

negative : numeric_read (codes "1, -2") ≡ Ok (without_affixes (SetOf ((pos 1, Some Comma) ∷ (negsuc 1, None) ∷ [])))
unfolding ucd_category chars encode_utf8
negative = refl

spaced : numeric_read (codes "1 , 2x") ≡ Ok (record { value = SetOf ((pos 1, Some Comma) ∷ (pos 2, None) ∷ []); prefix = None; suffix = Some (32 ∷ 120 ∷ []) })
unfolding ucd_category chars encode_utf8
spaced = refl

suffixed : numeric_read (codes "1, 2 x") ≡ Ok (record { value = SetOf ((pos 1, Some Comma) ∷ (pos 2, None) ∷ []); prefix = None; suffix = Some (120 ∷ []) })
unfolding ucd_category chars encode_utf8
suffixed = refl

zeros : numeric_read (codes "00") ≡ Ok (record { value = Single (pos 0); prefix = Some (48 ∷ []); suffix = None })
unfolding ucd_category chars encode_utf8
zeros = refl

zero : numeric_read (codes "0") ≡ Ok (without_affixes (Single (pos 0)))
unfolding ucd_category chars encode_utf8
zero = refl

zero_one : numeric_read (codes "01") ≡ Ok (record { value = Single (pos 1); prefix = Some (48 ∷ []); suffix = None })
unfolding ucd_category chars encode_utf8
zero_one = refl

minus_five : numeric_read (codes "-05") ≡ Ok (without_affixes (Single (negsuc 4)))
unfolding ucd_category chars encode_utf8
minus_five = refl

affixes : numeric_read (codes "A16y") ≡ Ok (record { value = Single (pos 16); prefix = Some (65 ∷ []); suffix = Some (121 ∷ []) })
unfolding ucd_category chars encode_utf8
affixes = refl

range_text : numeric_read (codes "1 - 4") ≡ Ok (without_affixes (SetOf ((pos 1, Some Hyphen) ∷ (pos 4, None) ∷ [])))
unfolding ucd_category chars encode_utf8
range_text = refl

no_digit : numeric_read (49 ∷ 194 ∷ 189 ∷ []) ≡ Err NoNumber
unfolding ucd_category chars encode_utf8
no_digit = refl

greatest : numeric_read (codes "2147483647") ≡ Ok (without_affixes (Single (pos 2147483647)))
unfolding ucd_category chars encode_utf8
greatest = refl

too_great : numeric_read (codes "2147483648") ≡ Err NoNumber
unfolding ucd_category chars encode_utf8
too_great = refl

two_dashes : numeric_read (49 ∷ 44 ∷ 50 ∷ 226 ∷ 128 ∷ 147 ∷ 45 ∷ 51 ∷ []) ≡ Err UnexpectedCharactersAfterPostfix
unfolding ucd_category chars encode_utf8
two_dashes = refl

-- Roman letters, and what reads back
roman_1987 : roman_text 1987 ≡ codes "mcmlxxxvii"
roman_1987 = refl

roman_3999 : roman_text 3999 ≡ codes "mmmcmxcix"
roman_3999 = refl

single_back : value_reads_back (Single (negsuc 4)) ≡ true
single_back = refl

least_not_back : value_reads_back (Single (negsuc 2147483647)) ≡ false
least_not_back = refl

negative_not_back : value_reads_back (SetOf ((pos 1, Some Hyphen) ∷ (negsuc 3, None) ∷ [])) ≡ false
negative_not_back = refl

negative_back : value_reads_back (SetOf ((pos 1, Some Comma) ∷ (negsuc 3, None) ∷ [])) ≡ true
negative_back = refl

-- the print of a set may move what a text says: the blank before an ampersand stands behind the first
-- number, where a suffix keeps it
ampersand_set : NumericView
ampersand_set = record { value = SetOf ((pos 1, Some Ampersand) ∷ (pos 2, None) ∷ []); prefix = None; suffix = Some (120 ∷ []) }

ampersand_read : numeric_read (codes "1&2x") ≡ Ok ampersand_set
unfolding ucd_category chars encode_utf8 ampersand_set
ampersand_read = refl

ampersand_moved : numeric_read (codes "1 & 2x") ≡ Ok (record { value = SetOf ((pos 1, Some Ampersand) ∷ (pos 2, None) ∷ []); prefix = None; suffix = Some (32 ∷ 120 ∷ []) })
unfolding ucd_category chars encode_utf8
ampersand_moved = refl

ampersand_not_kept : is_kept ampersand_set ≡ false
unfolding chars ampersand_set
ampersand_not_kept = refl

affixes_kept : is_kept (record { value = SetOf ((pos 1, Some Comma) ∷ (pos 2, None) ∷ []); prefix = Some (65 ∷ []); suffix = Some (120 ∷ []) }) ≡ true
unfolding chars
affixes_kept = refl

negative_behind_hyphen : numeric_read (codes "1- -2") ≡ Ok (without_affixes (SetOf ((pos 1, Some Hyphen) ∷ (negsuc 1, None) ∷ [])))
unfolding ucd_category chars encode_utf8
negative_behind_hyphen = refl

negative_not_kept : is_kept (without_affixes (SetOf ((pos 1, Some Hyphen) ∷ (negsuc 1, None) ∷ []))) ≡ false
negative_not_kept = refl
