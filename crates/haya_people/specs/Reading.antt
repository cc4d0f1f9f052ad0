-- What the text of a person reads as.
use Rattle.std.specs.Prelude.{◌≡◌, ℕ, ◌-◌, Bool, false, ◌==◌, List, [], ◌∷◌, ◌++◌, length, take, map, Option, Some, None, option_map, Result, Ok, Err, if◌then◌else◌}
use denote.Ref.{Bor}
use Rattle.std.specs.Char.{is_whitespace}
use Rattle.std.specs.List.{list_all, list_any, slice_split}
use Rattle.std.specs.Str.{IsUtf8, chars, encode_utf8_all, trim, trim_end}
use Rattle.unicode.specs.Binary.{is_lowercase}
use Rattle.haya_people.specs.declared.person.PersonError.{PersonError}
use Rattle.haya_people.specs.declared.person.PersonError.TheVariants.{Empty, TooManyParts}
use Rattle.haya_people.specs.Person.{PersonView}
use Rattle.haya_people.specs.Signs.{comma}
use Rattle.haya_people.specs.Words.{Word, words, first_passes, joined_words}

-- the texts that are pointed to
abbrev pub texts : List (Bor (List ℕ)) → List (List ℕ)
texts parts = map (λ p. p.now) parts

-- a text without the white space around it, if there is one
abbrev pub trimmed : Option (Bor (List ℕ)) → Option (List ℕ)
trimmed text = option_map (λ t. trim t.now) text

-- the words of a text, by its white space
abbrev pub words_of : List ℕ → List (Word ℕ)
words_of text = words is_whitespace (chars text)

-- whether the first character has the property Lowercase
abbrev pub is_lower : Word ℕ → Bool
is_lower w = first_passes is_lowercase w.0

abbrev pub last_word : List (Word ℕ) → List (Word ℕ)
last_word [] = []
last_word (w ∷ []) = w ∷ []
last_word (w ∷ v ∷ ws) = last_word (v ∷ ws)

-- the words behind the last lower one, or all where none is lower
abbrev pub words_behind_lower : List (Word ℕ) → List (Word ℕ)
words_behind_lower [] = []
words_behind_lower (w ∷ ws) =
    if list_any is_lower ws then words_behind_lower ws else if is_lower w then ws else w ∷ ws

-- the words of a name: the last one where all words are lower, otherwise those behind
-- the last lower one
abbrev pub name_words : List (Word ℕ) → List (Word ℕ)
name_words ws = if list_all is_lower ws then last_word ws else words_behind_lower ws

-- the name in a family part
unfoldable pub name_of : List ℕ → List ℕ
name_of family = encode_utf8_all (joined_words (name_words (words_of family)))

-- what stands before the name, without the white space at its end
unfoldable pub prefix_of : List ℕ → List ℕ
prefix_of family = trim_end (take (length family - length (name_of family)) family)

abbrev pub text_if_any : List ℕ → Option (List ℕ)
text_if_any [] = None
text_if_any (b ∷ bs) = Some (b ∷ bs)

-- a person by the trimmed parts of the text: the family part, the given name and the suffix
abbrev pub person_with : List ℕ → Option (List ℕ) → Option (List ℕ) → PersonView
person_with family given_name suffix = record {
  name = name_of family;
  given_name = given_name;
  prefix = text_if_any (prefix_of family);
  suffix = suffix;
  comma_suffix = false;
  alias = None;
}

-- a person of one to three parts: the family part is the first, the given name the
-- last, the suffix that between
unfoldable pub person_of : List (List ℕ) → Result PersonView PersonError
person_of [] = Err Empty
person_of (family ∷ []) = Ok (person_with (trim family) None None)
person_of (family ∷ given_name ∷ []) = Ok (person_with (trim family) (Some (trim given_name)) None)
person_of (family ∷ suffix ∷ given_name ∷ []) =
    Ok (person_with (trim family) (Some (trim given_name)) (Some (trim suffix)))
person_of (_ ∷ _ ∷ _ ∷ _ ∷ _) = Err TooManyParts

-- the parts of a text are separated by commas
abbrev pub person_read : List ℕ → Result PersonView PersonError
person_read text = person_of (slice_split (λ b. b == comma) text)

-- the text ends in `end`
abbrev pub IsEnd : List ℕ → List ℕ → Type 0
IsEnd text end = (front : List ℕ) × (text ≡ front ++ end)

-- the text begins with that word, and goes on with the next one behind the white space
pub record IsFirstWord (text word behind : List ℕ) : Type 0 where
  pub gap : List ℕ
  pub words : words_of text ≡ (chars word, gap) ∷ words_of behind
  pub end : IsEnd text behind
  pub valid : IsUtf8 behind
