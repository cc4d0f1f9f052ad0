-- Which numbers read back from their print.
use Rattle.std.specs.Prelude.{ℕ, suc, ℤ, pos, negsuc, Bool, true, false, ◌&&◌, ◌||◌, ◌==◌, ◌^◌, nat_lt, not, List, [], ◌∷◌, Option, None, Some}
use Rattle.std.specs.Char.{is_whitespace}
use Rattle.std.specs.Str.{chars}
use Rattle.haya_numbers.specs.declared.numeric.NumericDelimiter.{NumericDelimiter}
use Rattle.haya_numbers.specs.declared.numeric.NumericDelimiter.TheVariants.{Comma, Ampersand, Hyphen}
use Rattle.haya_text.specs.Characters.{begins_with}
use Rattle.haya_numbers.specs.Characters.{blank, is_delimiter}
use Rattle.haya_numbers.specs.Numeric.{Item, ValueView, Single, SetOf, NumericView}

-- above the least i32, and at most the greatest
abbrev pub is_readable : ℤ → Bool
is_readable (pos n) = nat_lt n (2 ^ 31)
is_readable (negsuc n) = nat_lt (suc n) (2 ^ 31)

-- a negative number can't follow a hyphen
abbrev pub may_follow : NumericDelimiter → ℤ → Bool
may_follow Hyphen (negsuc n) = false
may_follow Hyphen (pos n) = true
may_follow Comma n = true
may_follow Ampersand n = true

-- all but the last have a delimiter, after which the next may stand
abbrev pub items_read_back : List Item → Bool
items_read_back [] = false
items_read_back ((n, None) ∷ []) = is_readable n
items_read_back ((n, None) ∷ j ∷ rest) = false
items_read_back ((n, Some d) ∷ []) = false
items_read_back ((n, Some d) ∷ j ∷ rest) =
    is_readable n && may_follow d j.0 && items_read_back (j ∷ rest)

-- one number, or two and more
abbrev pub value_reads_back : ValueView → Bool
value_reads_back (Single n) = is_readable n
value_reads_back (SetOf []) = false
value_reads_back (SetOf (i ∷ [])) = false
value_reads_back (SetOf (i ∷ j ∷ rest)) = items_read_back (i ∷ j ∷ rest)

-- without affixes
abbrev pub reads_back : NumericView → Bool
reads_back n = plain_reads_back n.prefix n.suffix n.value
  where
    plain_reads_back : Option (List ℕ) → Option (List ℕ) → ValueView → Bool
    plain_reads_back None None v = value_reads_back v
    plain_reads_back _ _ _ = false

-- ---- numbers that were read from a text

-- no negative number behind a hyphen
abbrev pub signs_are_kept : List Item → Bool
signs_are_kept [] = true
signs_are_kept (i ∷ []) = true
signs_are_kept ((n, None) ∷ j ∷ rest) = signs_are_kept (j ∷ rest)
signs_are_kept ((n, Some d) ∷ j ∷ rest) = may_follow d j.0 && signs_are_kept (j ∷ rest)

-- the text begins with neither white space nor a delimiter
abbrev pub ends_numbers : List ℕ → Bool
ends_numbers cs = not (begins_with is_whitespace cs || begins_with is_delimiter cs)

-- The suffix of a set begins with the white space that is shown behind the first number, which is
-- a blank before an ampersand, and goes on with neither white space nor a delimiter.
abbrev pub suffix_is_kept : Option NumericDelimiter → List ℕ → Bool
suffix_is_kept (Some Ampersand) [] = false
suffix_is_kept (Some Ampersand) (c ∷ cs) = c == blank && ends_numbers cs
suffix_is_kept (Some Comma) cs = ends_numbers cs
suffix_is_kept (Some Hyphen) cs = ends_numbers cs
suffix_is_kept None cs = ends_numbers cs

-- A number that was read from a text is kept by its print: it is one number, or a set with no
-- negative number behind a hyphen, and with no suffix or one like that.
abbrev pub is_kept : NumericView → Bool
is_kept n = set_is_kept n.suffix n.value
  where
    set_is_kept : Option (List ℕ) → ValueView → Bool
    set_is_kept s (Single n) = true
    set_is_kept s (SetOf []) = false
    set_is_kept None (SetOf (i ∷ rest)) = signs_are_kept (i ∷ rest)
    set_is_kept (Some s) (SetOf (i ∷ rest)) =
        signs_are_kept (i ∷ rest) && suffix_is_kept i.1 (chars s)
