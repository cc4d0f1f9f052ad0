-- The members of a map in YAML, as they are in its text, byte for byte.
use Rattle.std.specs.Prelude.{◌≡◌, ℕ, List, [], ◌∷◌, ◌++◌, ⊤}
use Rattle.std.specs.List.{AllZip, concat}
use Rattle.json.specs.Json.{Json, Members, document, member, no_members, object}
use Rattle.haya_json_elements.specs.declared.place.Brackets.TheVariants.{Curly}
use Rattle.haya_slices.specs.Layout.{IsLaidOut}
use Rattle.haya_yaml.specs.Says.{IsJsonFor, says_if}

-- the text says this value in YAML, in which a map may have a name twice
abbrev pub Says : List ℕ → Json → Type 0
Says text j = says_if (document text) text j

-- the text says in YAML what this JSON says, which is an object of these members, byte for byte
pub record SaysMembers (text : List ℕ) (members : List (List ℕ)) : Type 0 where
  pub json : List ℕ
  pub same : IsJsonFor text json
  pub laid_out : IsLaidOut Curly json members

-- the same of an object of one member
abbrev pub SaysMember : List ℕ → List ℕ → Type 0
SaysMember text m = SaysMembers text (m ∷ [])

-- the text is a front, these parts of it, and a back
pub record IsDividedTo (text : List ℕ) (parts : List (List ℕ)) : Type 0 where
  pub front : List ℕ
  pub back : List ℕ
  pub is : text ≡ front ++ (concat parts ++ back)

-- The text says in YAML an object of as many members as there are parts, in order, of which each
-- part alone says the member at its place, and no other.
pub record SaysParts (text : List ℕ) (parts : List (List ℕ)) : Type 0 where
  pub members : List (List ℕ)
  pub said : SaysMembers text members
  pub each : AllZip SaysMember parts members

-- the same of parts of the text itself, byte for byte
pub record AreMemberParts (text : List ℕ) (parts : List (List ℕ)) : Type 0 where
  pub divided : IsDividedTo text parts
  pub same : SaysParts text parts

-- each text says an object of the member at its place, alone
abbrev pub SayEach : List (List ℕ) → Members → Type 0
SayEach [] no_members = ⊤
SayEach [] (member name j ms) = ⊥
SayEach (part ∷ parts) no_members = ⊥
SayEach (part ∷ parts) (member name j ms) =
    Says part (object (member name j no_members)) × SayEach parts ms
