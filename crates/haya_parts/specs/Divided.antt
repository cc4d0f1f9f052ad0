-- A text that is divided into parts.
use Rattle.std.specs.Prelude.{◌≡◌, ◌<◌, ◌⊎◌, ℕ, List, [], ◌∷◌, ◌++◌, length}
use Rattle.json.specs.Ascii as ascii
use Rattle.haya_parts.specs.declared.divider.Last.{Last}
use Rattle.haya_parts.specs.declared.divider.Last.TheVariants as last
use Rattle.haya_parts.specs.declared.divider.Next.{Next}
use Rattle.haya_parts.specs.declared.divider.Next.TheVariants as next
use Rattle.haya_parts.specs.declared.divider.Split.{Split}

-- However a text goes on behind what is held, it is divided: into what is taken, which has these
-- parts, and what is left.
abbrev pub Begins : {D : Type 0} → (D → List ℕ → List (List ℕ) → List ℕ → Type 0) → D → List ℕ
    → List (List ℕ) → List ℕ → Type 0
Begins divides d taken parts held =
    (more : List ℕ) → divides d (taken ++ (held ++ more)) parts (held ++ more)

-- this is what is held of a text
abbrev pub Begun : {D : Type 0} → (D → List ℕ → List (List ℕ) → List ℕ → Type 0) → D → List ℕ
    → Type 0
Begun divides d held =
    (taken : List ℕ) × (parts : List (List ℕ)) × Begins divides d taken parts held

-- the bytes in front and those behind are all
abbrev pub IsSplit : List ℕ → Split → Type 0
IsSplit held split = held ≡ split.front.now ++ split.behind.now

-- some bytes are in front of what is left
abbrev pub IsSplitNext : List ℕ → Next → Type 0
IsSplitNext held (next.Part part split) = IsSplit held split × (0 < length split.front.now)
IsSplitNext held (next.Between split) = IsSplit held split × (0 < length split.front.now)
IsSplitNext held next.More = Unit {0}
IsSplitNext held (next.Broken split) = IsSplit held split

-- a part is taken, or bytes of none are, or nothing is
abbrev pub TakesNext : {D : Type 0} → (D → List ℕ → List (List ℕ) → List ℕ → Type 0) → D → List ℕ
    → List (List ℕ) → List ℕ → Next → Type 0
TakesNext divides d taken parts held (next.Part part split) =
    Begins divides d (taken ++ split.front.now) (parts ++ part.now ∷ []) split.behind.now
TakesNext divides d taken parts held (next.Between split) =
    Begins divides d (taken ++ split.front.now) parts split.behind.now
TakesNext divides d taken parts held next.More = Begins divides d taken parts held
TakesNext divides d taken parts held (next.Broken split) = Unit {0}

-- the parts of the whole text, whose last is in what is held, or none is
abbrev pub TakesLast : (List ℕ → List (List ℕ) → Type 0) → List ℕ → List (List ℕ) → List ℕ → Last
    → Type 0
TakesLast AreParts taken parts held (last.Part part) =
    AreParts (taken ++ held) (parts ++ part.now ∷ [])
TakesLast AreParts taken parts held last.Nothing = AreParts (taken ++ held) parts
TakesLast AreParts taken parts held last.Broken = Unit {0}

-- ---- what is refused

-- the next part of a text of which this is held
pub record IsNextPart {D : Type 0} (divides : D → List ℕ → List (List ℕ) → List ℕ → Type 0) (d : D)
    (held part : List ℕ) : Type 0 where
  pub then : D
  pub front : List ℕ
  pub behind : List ℕ
  pub split : held ≡ front ++ behind
  pub takes : (taken : List ℕ) (parts : List (List ℕ)) → Begins divides d taken parts held →
      Begins divides then (taken ++ front) (parts ++ part ∷ []) behind

-- the last part
abbrev pub IsLastPart : {D : Type 0} → (D → List ℕ → List (List ℕ) → List ℕ → Type 0)
    → (D → List ℕ → List (List ℕ) → Type 0) → D → List ℕ → List ℕ → Type 0
IsLastPart divides are_parts d held part =
    (taken : List ℕ) (parts : List (List ℕ)) → Begins divides d taken parts held →
    are_parts d (taken ++ held) (parts ++ part ∷ [])

-- bytes that are held, and a comma, as no part ends
abbrev pub IsBroken : List ℕ → List ℕ → Type 0
IsBroken held marked =
    (first : List ℕ) × (more : List ℕ) × (held ≡ first ++ more)
    × (marked ≡ first ++ ascii.comma ∷ [])

-- what is refused: the next part, the last, or bytes that are none
abbrev pub IsRefused : {D : Type 0} → (D → List ℕ → List (List ℕ) → List ℕ → Type 0)
    → (D → List ℕ → List (List ℕ) → Type 0) → D → List ℕ → List ℕ → Type 0
IsRefused divides are_parts d held bytes =
    IsNextPart divides d held bytes
    ⊎ (IsLastPart divides are_parts d held bytes ⊎ IsBroken held bytes)
