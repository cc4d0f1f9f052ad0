-- Places: what of an entry is asked for, and of which entry of a hit.
use Rattle.std.specs.Prelude.{◌≡◌, ℕ, ◌+◌, ◌==◌, List, [], ◌∷◌, ◌++◌, Option, None, Some, codes, drop, if◌then◌else◌, option_map, position, string_bytes, take}
use Rattle.std.specs.Option.{option_or}
use Rattle.std.specs.Str.{bytes_eq}
use Rattle.haya_people.specs.Roles.{RoleView, role_name, role_read, role_view}
use Rattle.haya_entry.specs.FieldName.{field_name, field_named}
use Rattle.haya_entry.specs.declared.field_name.FieldName.{FieldName}
use Rattle.haya_questions.specs.declared.error.PlaceError.{PlaceError}
use Rattle.haya_questions.specs.declared.error.PlaceError.TheVariants.{UnknownField, OutOfMemory}
use Rattle.haya_questions.specs.declared.place.Part.{Part}
use Rattle.haya_questions.specs.declared.place.Part.TheVariants as part
use Rattle.haya_questions.specs.declared.place.Place.{Place}

-- a part of an entry by value: a field, the key, the type, or the persons in a role
pub data PartView : Type 0 where
  FieldPart : FieldName → PartView
  KeyPart : PartView
  TypePart : PartView
  RolePart : RoleView → PartView

abbrev pub part_view : Part → PartView
part_view (part.Field field) = FieldPart field
part_view part.Key = KeyPart
part_view part.Type = TypePart
part_view (part.Role role) = RolePart (role_view role)

-- a place by value: a part of the entry that is bound to the name, or of the hit's own entry
pub record PlaceView : Type 0 where
  pub name : Option (List ℕ)
  pub part : PartView

abbrev pub place_view : Place → PlaceView
place_view p = record { name = option_map string_bytes p.name; part = part_view p.part }

-- ---- their texts

abbrev pub dot : ℕ
dot = 46

-- the name of a part
abbrev pub part_name : PartView → List ℕ
part_name (FieldPart field) = field_name field
part_name KeyPart = codes "key"
part_name TypePart = codes "type"
part_name (RolePart role) = role_name role

-- the name and a dot, where there is one
abbrev pub before_dot : Option (List ℕ) → List ℕ
before_dot None = []
before_dot (Some name) = name ++ dot ∷ []

-- `FIELD`, or `NAME.FIELD`
abbrev pub place_text : PlaceView → List ℕ
place_text p = before_dot p.name ++ part_name p.part

-- ---- what they read as

-- the field, or the role, with this name
abbrev pub field_or_role : List ℕ → Option PartView
field_or_role word =
    option_or (option_map FieldPart (field_named word))
    (option_map (λ role. RolePart (role_view role)) (role_read word))

-- the part with this name
abbrev pub part_named : List ℕ → Option PartView
part_named word =
    if bytes_eq word (codes "key") then Some KeyPart
    else if bytes_eq word (codes "type") then Some TypePart
    else field_or_role word

-- what stands before the first dot, if there is one, and the word behind it
abbrev pub words_at : List ℕ → Option ℕ → Option (List ℕ) × List ℕ
words_at text None = (None, text)
words_at text (Some i) = (Some (take i text), drop (i + 1) text)

abbrev pub place_words : List ℕ → Option (List ℕ) × List ℕ
place_words text = words_at text (position (λ b. b == dot) text)

-- a part of the entry that is bound to this name
abbrev pub place_of : Option (List ℕ) → PartView → PlaceView
place_of name part = record { name = name; part = part }

-- the place that a text reads as
unfoldable pub place_read : List ℕ → Option PlaceView
place_read text =
    option_map (place_of (place_words text).0) (part_named (place_words text).1)

-- the word of a fault, which is not out of memory
abbrev pub unknown_word : PlaceError → Option (List ℕ)
unknown_word (UnknownField word) = Some (string_bytes word)
unknown_word OutOfMemory = None

-- the word is that of the text, and names nothing
pub record IsUnknown (text word : List ℕ) : Type 0 where
  pub reads : place_read text ≡ None
  pub is : word ≡ (place_words text).1
