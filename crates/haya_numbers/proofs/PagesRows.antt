-- The definitions of pages on worked rows.
use Rattle.std.proofs.Common.{◌≡◌, refl, [], ◌∷◌, Ok, Err, pos, negsuc, ℤ, true, false}
use Rattle.std.specs.Prelude.{codes}
use Rattle.std.specs.Char.{encode_utf8}
use Rattle.ucd_category.proofs.Computing.{ucd_category}
use Rattle.haya_numbers.specs.declared.numeric.NumericError.TheVariants.{NoNumber, UnexpectedCharactersAfterPostfix}
use Rattle.haya_numbers.specs.declared.page.PageRangesPartErr.TheVariants as fault
use Rattle.haya_numbers.specs.Numeric.{NumericView, Single, without_affixes}
use Rattle.haya_numbers.specs.Pages.{Ampersand, Comma, EscapedRange, Range, page_of}
use Rattle.haya_numbers.specs.PagesBack.{are_kept}
use Rattle.haya_numbers.specs.PagesReading.{pages_read}
use Rattle.haya_numbers.specs.Pieces.{pieces}

-- an affix-free number
number : ℤ → NumericView
number n = without_affixes (Single n)

separators : pieces (codes ",a,") ≡ (codes ",") ∷ (codes "a") ∷ (codes ",") ∷ []
separators = refl

doubled : pieces (codes "a&&b") ≡ (codes "a") ∷ (codes "&") ∷ (codes "&") ∷ (codes "b") ∷ []
doubled = refl

none : pages_read [] ≡ Ok []
none = refl

blank : pages_read (codes " ") ≡ Err fault.Empty
blank = refl

list : pages_read (codes "1-4, 5 & 6") ≡ Ok (Range (number (pos 1)) (number (pos 4)) ∷ Comma ∷ page_of (pos 5) ∷ Ampersand ∷ page_of (pos 6) ∷ [])
unfolding ucd_category encode_utf8 number
list = refl

en_dash_range : pages_read (49 ∷ 8211 ∷ 52 ∷ []) ≡ Ok (Range (number (pos 1)) (number (pos 4)) ∷ [])
unfolding ucd_category encode_utf8 number
en_dash_range = refl

escaped : pages_read (49 ∷ 92 ∷ 45 ∷ 52 ∷ []) ≡ Ok (EscapedRange (number (pos 1)) (number (pos 4)) ∷ [])
unfolding ucd_category encode_utf8 number
escaped = refl

three_halves : pages_read (codes "1-2-3") ≡ Err fault.Malformed
unfolding ucd_category encode_utf8
three_halves = refl

no_half : pages_read (codes "1--2") ≡ Err (fault.NumericErr NoNumber)
unfolding ucd_category encode_utf8
no_half = refl

letters : pages_read (codes "1n8--1n14") ≡ Err (fault.NumericErr UnexpectedCharactersAfterPostfix)
unfolding ucd_category encode_utf8
letters = refl

-- the first fault is told, though a later piece has another
first : pages_read (codes "1-2-3,x") ≡ Err fault.Malformed
unfolding ucd_category encode_utf8
first = refl

-- the blank that is printed behind a comma is a piece where no page follows it
comma_last : pages_read (codes "1,") ≡ Ok (page_of (pos 1) ∷ Comma ∷ [])
unfolding ucd_category encode_utf8
comma_last = refl

comma_printed : pages_read (codes "1, ") ≡ Err fault.Empty
unfolding ucd_category encode_utf8
comma_printed = refl

comma_not_kept : are_kept (page_of (pos 1) ∷ Comma ∷ []) ≡ false
comma_not_kept = refl

list_kept : are_kept (Range (number (pos 1)) (number (pos 4)) ∷ Comma ∷ page_of (pos 5) ∷ Ampersand ∷ page_of (pos 6) ∷ []) ≡ true
unfolding number
list_kept = refl

escaped_not_kept : are_kept (EscapedRange (number (pos 1)) (number (pos 4)) ∷ []) ≡ false
escaped_not_kept = refl

below_zero_not_kept : are_kept (page_of (negsuc 4) ∷ []) ≡ false
below_zero_not_kept = refl
