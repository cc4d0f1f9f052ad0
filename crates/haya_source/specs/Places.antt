-- Which element an entry of a library was read from.
use Rattle.std.specs.Prelude.{◌≡◌, ℕ, List, Option, find, option_map, reverse}
use Rattle.std.specs.HashMap.{get_by_text}
use Rattle.hayagriva.specs.Library.{has_key}
use Rattle.haya_source.specs.Elements.{Element}
use Rattle.haya_source.specs.declared.places.Places.{Places}

-- the last element whose entry has the key, as each takes the place of those before it
abbrev pub element_of : List ℕ → List Element → Option Element
element_of key es = find (λ e. has_key key e.1) (reverse es)

-- its bytes
abbrev pub part_for : List ℕ → List Element → Option (List ℕ)
part_for key es = option_map (λ e. e.0) (element_of key es)

-- the bytes that are kept under a key
unfoldable pub kept_part : Places → List ℕ → Option (List ℕ)
kept_part places key = option_map (λ s. s.now) (get_by_text places.parts key)

-- under each key are the bytes of the last of these elements that has it
abbrev pub ArePlacesOf : List Element → Places → Type 0
ArePlacesOf es places = (key : List ℕ) → kept_part places key ≡ part_for key es
