-- The parts of a name that are written behind their names, as `family=Gogh, prefix=van`.
use Rattle.std.specs.Prelude.{ℕ, not, Bool, true, false, List, [], ◌∷◌, drop, filter, map, reverse, codes, if◌then◌else◌, Option, None, Some}
use Rattle.std.specs.List.{list_all, list_any, prefix_len, slice_split}
use Rattle.std.specs.Str.{bytes_eq}
use Rattle.haya_bibtex_names.specs.Parts.{sides, without_end, words_text}
use Rattle.haya_bibtex_names.specs.Plain.{NameTexts}
use Rattle.haya_bibtex_names.specs.Signs.{is_gap, is_sign, is_white}
use Rattle.haya_bibtex_names.specs.Words.{Text, words}

-- the parts of a name, separated by commas
abbrev pub parts : Text → List Text
parts text = slice_split (is_sign 44) text

-- a part that has the sign `=` behind a single word
abbrev pub is_single : List Text → Bool
is_single [] = false
is_single (w ∷ []) = true
is_single (w ∷ v ∷ ws) = false

abbrev pub is_labelled_by : Option (Text × Text) → Bool
is_labelled_by None = false
is_labelled_by (Some p) = is_single (words p.0)

abbrev pub is_labelled : Text → Bool
is_labelled part = is_labelled_by (sides 61 part)

abbrev pub is_extended : Text → Bool
is_extended text = list_all is_labelled (parts text)

-- the word of such a part
abbrev pub label_by : Option (Text × Text) → List ℕ
label_by None = []
label_by (Some p) = words_text (words p.0)

abbrev pub label : Text → List ℕ
label part = label_by (sides 61 part)

-- a text without white at its ends
abbrev pub trim : Text → Text
trim xs = without_end is_gap (drop (prefix_len is_white xs) xs)

-- a text without quotation marks around it
abbrev pub without_last_quote : Text → Text → Text
without_last_quote whole [] = whole
without_last_quote whole (y ∷ ys) = if is_sign 34 y then reverse ys else whole

abbrev pub without_quotes : Text → Text
without_quotes [] = []
without_quotes (x ∷ xs) = if is_sign 34 x then without_last_quote (x ∷ xs) (reverse xs) else x ∷ xs

-- the text behind the sign of a part
abbrev pub value_by : Option (Text × Text) → List ℕ
value_by None = []
value_by (Some p) = words_text (words (without_quotes (trim p.1)))

abbrev pub value : Text → List ℕ
value part = value_by (sides 61 part)

-- that of the first part with this word
abbrev pub first_value : List ℕ → List Text → List ℕ
first_value word [] = []
first_value word (p ∷ ps) = if bytes_eq (label p) word then value p else first_value word ps

abbrev pub extended_texts : List Text → NameTexts
extended_texts ps = record {
  family = first_value (codes "family") ps;
  prefix = first_value (codes "prefix") ps;
  given = first_value (codes "given") ps;
  suffix = first_value (codes "suffix") ps;
}

-- the words that say a part, or nothing of a person
abbrev pub known_labels : List (List ℕ)
known_labels =
    codes "family" ∷ codes "given" ∷ codes "prefix" ∷ codes "suffix" ∷ codes "useprefix"
    ∷ codes "family-i" ∷ codes "given-i" ∷ codes "prefix-i" ∷ codes "suffix-i" ∷ []

abbrev pub is_odd : List ℕ → Bool
is_odd word = not (list_any (bytes_eq word) known_labels)

-- the other words
abbrev pub odd_labels : List Text → List (List ℕ)
odd_labels ps = filter is_odd (map label ps)
