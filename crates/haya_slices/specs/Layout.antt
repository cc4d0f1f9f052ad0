-- A text in JSON as it is laid out: its elements as they are in it, byte for byte.
use Rattle.std.specs.Prelude.{◌≡◌, ℕ, ◌-◌, Bool, true, false, IsFalse, IsTrue, List, [], ◌∷◌, ◌++◌, Option, None, Some, length, option_and_then, slice_index, if◌then◌else◌}
use Rattle.std.specs.List.{AllByRecursion}
use Rattle.json.specs.Ascii as ascii
use Rattle.json.specs.Word.{is_space}
use Rattle.haya_json_elements.specs.Steps.{closing_bracket, opening_bracket, step}
use Rattle.haya_json_elements.specs.declared.place.Brackets.{Brackets}
use Rattle.haya_json_elements.specs.declared.place.Mode.{Mode}
use Rattle.haya_json_elements.specs.declared.place.Mode.TheVariants.{Between, Word, Text, Escape}
use Rattle.haya_json_elements.specs.declared.place.Place.{Place}
use Rattle.haya_json_elements.specs.declared.place.Place.TheVariants.{Next, Element}

-- ---- an element

-- where in an element a place is: what a byte there is part of, and how many brackets are open
abbrev pub within : Place → Option (Mode × ℕ)
within (Element mode depth) = Some (mode, depth)
within _ = None

-- where bytes lead from a place in an element, if they don't leave it
abbrev pub inside : Brackets → Mode → ℕ → List ℕ → Option (Mode × ℕ)
inside b mode depth [] = Some (mode, depth)
inside b mode depth (x ∷ xs) =
    option_and_then (λ p. inside b p.0 p.1 xs) (within (step b (Element mode depth) x).0)

-- the same from where an element may begin, with its first byte
abbrev pub inside_element : Brackets → List ℕ → Option (Mode × ℕ)
inside_element b [] = None
inside_element b (x ∷ xs) =
    option_and_then (λ p. inside b p.0 p.1 xs) (within (step b Next x).0)

-- no string is open
abbrev pub is_outside_string : Mode → Bool
is_outside_string Between = true
is_outside_string Word = true
is_outside_string Text = false
is_outside_string Escape = false

-- The bytes are an element from its first byte to its last: what opens in it is closed in it, no
-- comma is outside of its own brackets and strings, and it neither begins nor ends with white space.
pub record IsElement (b : Brackets) (part : List ℕ) : Type 0 where
  pub mode : Mode
  pub closed : inside_element b part ≡ Some (mode, 0)
  pub outside : IsTrue (is_outside_string mode)
  pub tight : IsFalse (is_space (slice_index part (length part - 1)))

-- ---- a text

-- bytes are a part of a text, one behind the other
pub record IsPartOf (part text : List ℕ) : Type 0 where
  pub front : List ℕ
  pub back : List ℕ
  pub is : text ≡ front ++ (part ++ back)

abbrev pub IsWhite : List ℕ → Type 0
IsWhite bytes = AllByRecursion (λ x. IsTrue (is_space x)) bytes

-- the text is a part with white space around it
pub record IsPadded (part text : List ℕ) : Type 0 where
  pub front : List ℕ
  pub back : List ℕ
  pub is : text ≡ front ++ (part ++ back)
  pub before : IsWhite front
  pub behind : IsWhite back

-- the text is parts with white space around each, separated by commas
abbrev pub AreSeparated : List (List ℕ) → List ℕ → Type 0
AreSeparated [] text = IsWhite text
AreSeparated (p ∷ []) text = IsPadded p text
AreSeparated (p ∷ (q ∷ ps)) text =
    (first : List ℕ) × (more : List ℕ) × (text ≡ first ++ ascii.comma ∷ more)
    × IsPadded p first × AreSeparated (q ∷ ps) more

-- The text is a list in these brackets, white space aside, whose elements are these parts of it, in
-- order.
pub record IsLaidOut (b : Brackets) (text : List ℕ) (parts : List (List ℕ)) : Type 0 where
  pub front : List ℕ
  pub list : List ℕ
  pub back : List ℕ
  pub is : text ≡ front ++ opening_bracket b ∷ (list ++ closing_bracket b ∷ back)
  pub before : IsWhite front
  pub behind : IsWhite back
  pub separated : AreSeparated parts list
  pub elements : AllByRecursion (IsElement b) parts

-- ---- a list that is printed

-- an element on a line of its own: the first behind the bracket that opens, others behind a comma
abbrev pub element_text : Brackets → Bool → List ℕ → List ℕ
element_text b is_first part =
    (if is_first then opening_bracket b else ascii.comma) ∷ ascii.line_feed ∷ part

-- the end of a list: the bracket that closes; of an empty list, a line of both brackets
abbrev pub end_text : Brackets → Bool → List ℕ
end_text b is_empty =
    (if is_empty then opening_bracket b else ascii.line_feed)
    ∷ closing_bracket b ∷ ascii.line_feed ∷ []

-- elements, from the first of a list or from a later one, to the list's end
abbrev pub text_from : Brackets → Bool → List (List ℕ) → List ℕ
text_from b is_first [] = end_text b is_first
text_from b is_first (p ∷ ps) = element_text b is_first p ++ text_from b false ps

-- elements as a list in these brackets, each on a line of its own; without any, a line of brackets
abbrev pub list_text : Brackets → List (List ℕ) → List ℕ
list_text b parts = text_from b true parts
