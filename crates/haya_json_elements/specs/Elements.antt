-- The elements of a text, an element a line.
use Rattle.std.specs.Prelude.{◌≡◌, ℕ, ◌==◌, List, [], ◌∷◌, Some, filter, length, not, ⊤}
use Rattle.std.specs.Str.Lines.{lines}
use Rattle.json.specs.Json.{Json, Items, Members, value, no_items, item, no_members, member}
use Rattle.json.specs.Lex.{tokens}
use Rattle.json.specs.Token.{Token}
use Rattle.haya_json_elements.specs.Steps.{mark, step}
use Rattle.haya_json_elements.specs.declared.place.Brackets.{Brackets}
use Rattle.haya_json_elements.specs.declared.place.Place.{Place}
use Rattle.haya_json_elements.specs.declared.place.Place.TheVariants.{Front, Opened, Next, Element, Closed, Lost}

-- ---- lines

-- what stands for the end of a text: a mark where it ends too early
abbrev pub end_of : Place → List ℕ
end_of Front = mark ∷ []
end_of Opened = mark ∷ []
end_of Next = mark ∷ []
end_of (Element mode d) = mark ∷ []
end_of Closed = []
end_of Lost = []

-- the lines of what is left of a text at this place
abbrev pub lines_from : Brackets → Place → List ℕ → List ℕ
lines_from b p [] = end_of p
lines_from b p (x ∷ xs) = (step b p x).1 ∷ lines_from b (step b p x).0 xs

-- the text with each element on a line of its own; other lines are empty
abbrev pub element_lines : Brackets → List ℕ → List ℕ
element_lines b text = lines_from b Front text

-- the lines that aren't empty
abbrev pub nonempty_lines : List (List ℕ) → List (List ℕ)
nonempty_lines ls = filter (λ line. not (length line == 0)) ls

-- the lines of a text that have an element
abbrev pub elements : Brackets → List ℕ → List (List ℕ)
elements b text = nonempty_lines (lines (element_lines b text))

-- ---- what an element says

-- the line is an item of an array: a value that nests no deeper than 127
abbrev pub IsItem : List ℕ → Json → Type 0
IsItem line j = value 127 (tokens line) ≡ Some (j, [])

-- the line is a member of an object: a name, and such a value
pub record IsMember (line : List ℕ) (name : List ℕ) (j : Json) : Type 0 where
  pub left : List Token
  pub named : tokens line ≡ Token.key name ∷ left
  pub said : value 127 left ≡ Some (j, [])

-- the lines are these items
abbrev pub AreItems : List (List ℕ) → Items → Type 0
AreItems [] no_items = ⊤
AreItems [] (item j js) = ⊥
AreItems (line ∷ ls) no_items = ⊥
AreItems (line ∷ ls) (item j js) = IsItem line j × AreItems ls js

-- the lines are these members
abbrev pub AreMembers : List (List ℕ) → Members → Type 0
AreMembers [] no_members = ⊤
AreMembers [] (member name j ms) = ⊥
AreMembers (line ∷ ls) no_members = ⊥
AreMembers (line ∷ ls) (member name j ms) = IsMember line name j × AreMembers ls ms
