-- What is lost of a value that is read: the members of its objects that are none of its parts.
use Rattle.std.specs.Prelude.{ℕ, ◌+◌, List, [], ◌∷◌, ◌++◌, codes, if◌then◌else◌}
use Rattle.std.specs.List.{list_any}
use Rattle.std.specs.Str.{bytes_eq}
use Rattle.json.specs.Json as json
use Rattle.json.specs.Json.{Json, Items, Members}
use Rattle.json.specs.Find.{is_null}
use Rattle.haya_json.specs.Notes.{LostView, all_behind, lost_here, named}
use Rattle.haya_json.specs.Refusal.{to_item, to_member}

-- what is lost of a member with this name and value, in the field that is called so
abbrev pub PartLoss : Type 0
PartLoss = List ℕ → List ℕ → Json → List LostView

-- a member that is no part is lost under the name of the field and its own
abbrev pub no_part : List ℕ → List ℕ → List LostView
no_part of name = lost_here (named (of ++ (codes ", member " ++ name))) ∷ []

-- a member that has one of these names is a part, of which nothing is lost
abbrev pub unless_among : List (List ℕ) → PartLoss
unless_among names of name j = if list_any (bytes_eq name) names then [] else no_part of name

-- ---- objects and arrays

-- of a member; one that is null is as if it weren't there
abbrev pub member_lost : PartLoss → PartLoss
member_lost part of name j = if is_null j then [] else all_behind (to_member name) (part of name j)

abbrev pub members_lost : PartLoss → List ℕ → Members → List LostView
members_lost part of json.no_members = []
members_lost part of (json.member k j ms) = member_lost part of k j ++ members_lost part of ms

-- of a value that may be an object of its parts
unfoldable pub parts_lost : PartLoss → List ℕ → Json → List LostView
parts_lost part of (json.object ms) = members_lost part of ms
parts_lost part of _ = []

-- of items, the first of which is at this place
abbrev pub items_lost : PartLoss → List ℕ → ℕ → Items → List LostView
items_lost part of n json.no_items = []
items_lost part of n (json.item j js) =
    all_behind (to_item n) (parts_lost part of j) ++ items_lost part of (n + 1) js

-- of one value alone, or of an array of them
unfoldable pub many_lost : PartLoss → List ℕ → Json → List LostView
many_lost part of (json.array js) = items_lost part of 0 js
many_lost part of j = parts_lost part of j

-- ---- the types of values

abbrev pub chunks_part : PartLoss
chunks_part of name j = unless_among (codes "value" ∷ codes "verbatim" ∷ []) of name j

-- the forms of a text: each may be an object of its chunks
abbrev pub format_part : PartLoss
format_part of name j =
    if list_any (bytes_eq name) (codes "value" ∷ codes "short" ∷ [])
    then parts_lost chunks_part of j
    else unless_among (codes "verbatim" ∷ []) of name j

abbrev pub person_part : PartLoss
person_part of name j =
    unless_among
    (codes "name" ∷ codes "given-name" ∷ codes "prefix" ∷ codes "suffix" ∷ codes "comma-suffix"
    ∷ codes "alias" ∷ []) of name j

abbrev pub roles_part : PartLoss
roles_part of name j =
    if bytes_eq name (codes "names") then many_lost person_part of j
    else unless_among (codes "role" ∷ []) of name j

abbrev pub date_part : PartLoss
date_part of name j =
    unless_among
    (codes "year" ∷ codes "month" ∷ codes "day" ∷ codes "approximate" ∷ codes "season" ∷ []) of
    name j

abbrev pub publisher_part : PartLoss
publisher_part of name j =
    if list_any (bytes_eq name) (codes "name" ∷ codes "location" ∷ [])
    then parts_lost format_part of j
    else no_part of name

abbrev pub url_part : PartLoss
url_part of name j =
    if bytes_eq name (codes "date") then parts_lost date_part of j
    else unless_among (codes "value" ∷ []) of name j

abbrev pub range_part : PartLoss
range_part of name j = unless_among (codes "start" ∷ codes "end" ∷ []) of name j
