-- Where an entry ends in bytes, and what is in front of it.
use Rattle.std.specs.Prelude.{◌≡◌, ◌⊎◌, ◌≤◌, ◌<◌, ◌+◌, ℕ, IsFalse, IsTrue, List, [], ◌∷◌, ◌++◌, drop, length, slice_index}
use Rattle.std.specs.List.{AllByRecursion, concat, flat_map}
use Rattle.std.specs.Str.Lines.{lines}
use Rattle.haya_lines.specs.Signs.{line_feed}
use Rattle.haya_line_slices.specs.EntryLines.{BeginNone, IsEntryPart, begins_entry}

-- the lines behind the first
abbrev pub behind_first : List (List ℕ) → List (List ℕ)
behind_first [] = []
behind_first (l ∷ ls) = ls

-- a line ends in front of this place, and an entry begins there, or the bytes end
abbrev pub IsEnd : List ℕ → ℕ → Type 0
IsEnd bytes n =
    (n ≡ length bytes)
    ⊎ ((m : ℕ) × (n ≡ m + 1) × (slice_index bytes m ≡ line_feed)
    × IsTrue (begins_entry (drop n bytes)))

-- an entry, or a front without one, ends at this place: none begins in it, but at its first byte
pub record EndsAt (bytes : List ℕ) (n : ℕ) : Type 0 where
  pub within : n ≤ length bytes
  pub some : 0 < length bytes → 0 < n
  pub ends : IsEnd bytes n
  pub none : (k : ℕ) → k + 1 < n → slice_index bytes k ≡ line_feed →
      IsFalse (begins_entry (drop (k + 1) bytes))

-- a text is a front, parts, and this rest
pub record IsPartedTo (text : List ℕ) (parts : List (List ℕ)) (rest : List ℕ) : Type 0 where
  pub front : List ℕ
  pub is : text ≡ front ++ (concat parts ++ rest)
  pub whole : lines text ≡ lines front ++ (flat_map lines parts ++ lines rest)
  pub before : BeginNone (lines front)
  pub each : AllByRecursion IsEntryPart parts
  pub next : (rest ≡ []) ⊎ IsTrue (begins_entry rest)
