-- The initials of a given name, by its extended graphemes.
use Rattle.std.specs.Prelude.{ℕ, Bool, true, false, not, ◌==◌, ◌&&◌, ◌||◌, nat_lt, List, [], ◌∷◌, ◌++◌, length, flat_map, Option, option_map, unwrap_or, if◌then◌else◌}
use denote.Ref.{Bor}
use Rattle.std.specs.Char.{is_whitespace}
use Rattle.std.specs.List.{concat, list_any}
use Rattle.std.specs.Option.{option_map_or}
use Rattle.std.specs.Str.{chars, trim_end}
use Rattle.ucd_category.specs.GeneralCategory.{general_category}
use Rattle.ucd_category.specs.declared.GeneralCategory.{GeneralCategory}
use Rattle.ucd_category.specs.declared.GeneralCategory.TheVariants.{UppercaseLetter, TitlecaseLetter}
use Rattle.unicode_segmentation.specs.Grapheme.{graphemes}
use Rattle.haya_people.specs.Signs.{blank, hyphen}
use Rattle.haya_people.specs.Words.{Word, words, first_passes}

abbrev pub is_upper_letter : GeneralCategory → Bool
is_upper_letter UppercaseLetter = true
is_upper_letter TitlecaseLetter = true
is_upper_letter _ = false

-- an extended grapheme, by its bytes
abbrev pub Grapheme : Type 0
Grapheme = List ℕ

-- what stands between words: a grapheme that begins with white space or a hyphen
unfoldable pub is_separator : Grapheme → Bool
is_separator g = first_passes (λ c. is_whitespace c || c == hyphen) (chars g)

unfoldable pub begins_with_hyphen : Grapheme → Bool
begins_with_hyphen g = first_passes (λ c. c == hyphen) (chars g)

-- a grapheme that holds an upper case or title case letter
unfoldable pub is_upper : Grapheme → Bool
is_upper g = list_any (λ c. is_upper_letter (general_category c)) (chars g)

-- a word up to and including its first upper grapheme, or all of it
abbrev pub stem : List Grapheme → List Grapheme
stem [] = []
stem (g ∷ word) = if is_upper g then g ∷ [] else g ∷ stem word

-- a word without an upper grapheme
abbrev pub is_plain : List Grapheme → Bool
is_plain word = not (list_any is_upper word)

-- what initials are put together with: the delimiter (empty where there is none), and
-- whether hyphens are kept
pub record Style : Type 0 where
  pub delimiter : List ℕ
  pub with_hyphen : Bool

-- a delimiter that isn't given is the empty one
abbrev pub style_with : Option (Bor (List ℕ)) → Bool → Style
style_with delimiter with_hyphen = record {
  delimiter = unwrap_or (option_map (λ d. d.now) delimiter) [];
  with_hyphen = with_hyphen;
}

-- the blank before a word: none where its first grapheme is upper, or the
-- delimiter ends in white space
abbrev pub lead : Style → Grapheme → List ℕ
lead style g =
    if is_upper g || nat_lt (length (trim_end style.delimiter)) (length style.delimiter) then []
    else blank ∷ []

-- whether a separator is written as a hyphen
abbrev pub is_hyphened : Style → Grapheme → Bool
is_hyphened style sep = style.with_hyphen && begins_with_hyphen sep

-- what a separator writes behind a plain word
abbrev pub plain_separator : Style → Grapheme → List ℕ
plain_separator style sep = if is_hyphened style sep then hyphen ∷ [] else blank ∷ []

-- what the separators behind any other word write: the first alone does; with
-- no separator the name ends
abbrev pub delimiter_for : Style → List Grapheme → List ℕ
delimiter_for style [] = trim_end style.delimiter
delimiter_for style (sep ∷ seps) =
    if is_hyphened style sep then trim_end style.delimiter ++ hyphen ∷ [] else style.delimiter

-- what is written behind a word
abbrev pub gap_bytes : Style → Bool → List Grapheme → List ℕ
gap_bytes style is_plain seps =
    if is_plain then flat_map (plain_separator style) seps else delimiter_for style seps

-- what a word and the separators behind it write; those before the first word write nothing
abbrev pub word_bytes : Style → Word Grapheme → List ℕ
word_bytes style ([], seps) = []
word_bytes style (g ∷ word, seps) =
    lead style g ++ (concat (stem (g ∷ word)) ++ gap_bytes style (is_plain (g ∷ word)) seps)

-- the initials of a given name
unfoldable pub initials_of : Style → List ℕ → List ℕ
initials_of style given_name =
    flat_map (word_bytes style) (words is_separator (graphemes true given_name))

-- nothing is written where there is no given name
abbrev pub initials : Style → Option (List ℕ) → List ℕ
initials style given_name = option_map_or (initials_of style) given_name []
