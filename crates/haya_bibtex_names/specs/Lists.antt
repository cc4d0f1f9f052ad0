-- The persons of a list of names.
use Rattle.std.specs.Prelude.{ℕ, Bool, false, List, [], ◌∷◌, flat_map, if◌then◌else◌, Option, None, Some, option_to_list}
use Rattle.std.specs.List.{slice_split}
use Rattle.haya_latex.specs.Texts.{name_chars}
use Rattle.haya_latex.specs.declared.kinds.Kind.TheVariants.{Free}
use Rattle.haya_people.specs.Person.{PersonView}
use Rattle.haya_people.specs.Reading.{text_if_any}
use Rattle.haya_bibtex_names.specs.Extended.{extended_texts, is_extended, odd_labels, parts}
use Rattle.haya_bibtex_names.specs.Parts.{without_end}
use Rattle.haya_bibtex_names.specs.Plain.{NameTexts, plain_texts}
use Rattle.haya_bibtex_names.specs.Signs.{is_gap}
use Rattle.haya_bibtex_names.specs.Words.{Text, is_and, is_others, words}

-- ---- the person of the parts of a name

abbrev pub person : List ℕ → List ℕ → List ℕ → List ℕ → PersonView
person name given prefix suffix = record {
  name = name;
  given_name = text_if_any given;
  prefix = text_if_any prefix;
  suffix = text_if_any suffix;
  comma_suffix = false;
  alias = None;
}

-- where there is no family name the given name takes its place, then the suffix; without any of
-- them there is no person
abbrev pub person_by : List ℕ → List ℕ → List ℕ → List ℕ → Option PersonView
person_by prefix [] [] [] = None
person_by prefix [] [] (s ∷ suffix) = Some (person (s ∷ suffix) [] prefix [])
person_by prefix [] (g ∷ given) suffix = Some (person (g ∷ given) [] prefix suffix)
person_by prefix (f ∷ family) given suffix = Some (person (f ∷ family) given prefix suffix)

abbrev pub person_of : NameTexts → Option PersonView
person_of t = person_by t.prefix t.family t.given t.suffix

-- ---- names

-- words as a text, with a blank in front of each
abbrev pub with_blanks : List Text → Text
with_blanks ws = flat_map (λ w. (32, Free) ∷ w) ws

-- a name as a text, without white and commas at its end
abbrev pub name_text : List Text → Text
name_text ws = without_end is_gap (with_blanks ws)

abbrev pub texts_of : Text → NameTexts
texts_of text = if is_extended text then extended_texts (parts text) else plain_texts text

abbrev pub odd_in : Text → List (List ℕ)
odd_in text = if is_extended text then odd_labels (parts text) else []

-- `others` is no person
abbrev pub is_only_others : List Text → Bool
is_only_others [] = false
is_only_others (w ∷ []) = is_others w
is_only_others (w ∷ v ∷ ws) = false

abbrev pub persons_in : List Text → List PersonView
persons_in ws =
    if is_only_others ws then [] else option_to_list (person_of (texts_of (name_text ws)))

abbrev pub odd_words_in : List Text → List (List ℕ)
odd_words_in ws = if is_only_others ws then [] else odd_in (name_text ws)

-- ---- lists of names

-- the names of a text, each as its words
abbrev pub names : List ℕ → List (List Text)
names xs = slice_split is_and (words (name_chars xs))

abbrev pub persons : List ℕ → List PersonView
persons xs = flat_map persons_in (names xs)

-- the words in front of a sign `=` that name no part, in order
abbrev pub odd_words : List ℕ → List (List ℕ)
odd_words xs = flat_map odd_words_in (names xs)
