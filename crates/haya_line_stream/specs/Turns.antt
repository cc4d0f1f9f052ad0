-- What is asked of a text in turn.
use Rattle.std.specs.Prelude.{◌≡◌, ◌==◌, ℕ, false, All, List, [], ◌∷◌, ◌++◌, map, Option, Some, None}
use Rattle.std.specs.List.{count_by, last_or}
use Rattle.std.specs.Str.Lines.{lines}

-- each of the lines, and then the end, for which None stands
abbrev pub turns_in : List (List ℕ) → List (Option (List ℕ))
turns_in ls = map (λ line. Some line) ls ++ None ∷ []

-- each line of the text, and then its end
abbrev pub turns : List ℕ → List (Option (List ℕ))
turns text = turns_in (lines text)

-- no byte is a line feed
abbrev pub HasNoFeed : List ℕ → Type 0
HasNoFeed bytes = All (λ b. (b == 10) ≡ false) bytes

-- empty, or the last byte is a line feed
abbrev pub AreWholeLines : List ℕ → Type 0
AreWholeLines text = last_or (Some 10) text ≡ Some 10

-- how many lines of a text have ended: as many as it has line feeds
abbrev pub ended_count : List ℕ → ℕ
ended_count text = count_by (λ b. b == 10) text
