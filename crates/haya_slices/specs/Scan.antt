-- What a text begins with.
use Rattle.std.specs.Prelude.{◌≡◌, ◌⊎◌, ◌<◌, ℕ, Bool, IsTrue, List, ◌∷◌, ◌++◌, Some, length, map, slice_index, take, if◌then◌else◌}
use Rattle.json.specs.Ascii as ascii
use Rattle.haya_json_elements.specs.Steps.{closing_bracket}
use Rattle.haya_json_elements.specs.declared.place.Brackets.{Brackets}
use Rattle.haya_json_elements.specs.declared.place.Mode.{Mode}
use Rattle.haya_slices.specs.Layout.{IsElement, IsPadded, IsWhite, inside_element, is_outside_string}

-- what is behind an element: the bracket that closes, or a comma
abbrev pub end_byte : Brackets → Bool → ℕ
end_byte b is_last = if is_last then closing_bracket b else ascii.comma

-- an element, and white space, is in front of this place, where it ends
pub record EndsAt (b : Brackets) (bytes : List ℕ) (place : ℕ) : Type 0 where
  pub mode : Mode
  pub within : place < length bytes
  pub closed : inside_element b (take place bytes) ≡ Some (mode, 0)
  pub outside : IsTrue (is_outside_string mode)
  pub ends : (slice_index bytes place ≡ ascii.comma) ⊎ (slice_index bytes place ≡ closing_bracket b)

-- a text begins with an element, white space around it, and what is behind that
pub record BeginsWith (b : Brackets) (text element : List ℕ) (is_last : Bool) (behind : List ℕ)
    : Type 0 where
  pub first : List ℕ
  pub is : text ≡ first ++ end_byte b is_last ∷ behind
  pub padded : IsPadded element first
  pub element_is : IsElement b element

-- a text begins with a byte, white space aside
pub record BeginsByte (byte : ℕ) (text behind : List ℕ) : Type 0 where
  pub front : List ℕ
  pub is : text ≡ front ++ byte ∷ behind
  pub before : IsWhite front

-- slices by value
abbrev pub views : {A : Type 0} → (A → List ℕ) → List A → List (List ℕ)
views view slices = map view slices
