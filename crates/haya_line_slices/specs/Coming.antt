-- A text in lines, divided into its entries as it comes.
use Rattle.std.specs.Prelude.{◌≡◌, ◌+◌, ◌<◌, ◌≤◌, ℕ, IsFalse, IsTrue, List, ◌++◌, drop, length, slice_index, take}
use Rattle.std.specs.Str.Lines.{lines}
use Rattle.haya_lines.specs.Signs.{line_feed}
use Rattle.haya_line_library.specs.Parts.{AreWholeLines}
use Rattle.haya_line_slices.specs.EntryLines.{AreEntryParts, BeginNone, begins_entry}
use Rattle.haya_line_slices.specs.Scan.{IsPartedTo}
use Rattle.haya_line_slices.specs.declared.coming.EntryEnd.{EntryEnd}
use Rattle.haya_line_slices.specs.declared.coming.EntryEnd.TheVariants.{Feed, Open}
use Rattle.haya_line_slices.specs.declared.coming.EntryParts.{EntryParts}
use Rattle.haya_line_slices.specs.declared.coming.EntryPlace.{EntryPlace}
use Rattle.haya_line_slices.specs.declared.coming.EntryPlace.TheVariants.{Entry, Front}
use Rattle.haya_line_stream.specs.Turns.{HasNoFeed}

-- the parts of a whole text: the lines in front of its first entry, each alone, and its entries
pub record AreLineParts (text : List ℕ) (parts : List (List ℕ)) : Type 0 where
  pub entries : List (List ℕ)
  pub are : AreEntryParts text entries
  pub all : parts ≡ lines are.front ++ entries

-- ---- a text up to a place

-- no entry begins behind a line feed among so many of the first bytes
abbrev pub NoneBefore : List ℕ → ℕ → Type 0
NoneBefore bytes n =
    (k : ℕ) → k < n → slice_index bytes k ≡ line_feed → IsFalse (begins_entry (drop (k + 1) bytes))

-- however the bytes go on
abbrev pub NeverBefore : List ℕ → ℕ → Type 0
NeverBefore held n = (more : List ℕ) → NoneBefore (held ++ more) n

-- what is taken are whole lines, of which none is an entry, and each is a part
pub record IsFront (looked : ℕ) (text : List ℕ) (parts : List (List ℕ)) (rest : List ℕ)
    : Type 0 where
  pub front : List ℕ
  pub is : text ≡ front ++ rest
  pub whole : AreWholeLines front
  pub before : BeginNone (lines front)
  pub all : parts ≡ lines front
  pub none : HasNoFeed (take looked rest)

-- what is taken are entries behind such lines, and an entry begins
pub record IsBehind (looked : ℕ) (text : List ℕ) (parts : List (List ℕ)) (rest : List ℕ)
    : Type 0 where
  pub entries : List (List ℕ)
  pub parted : IsPartedTo text entries rest
  pub all : parts ≡ lines parted.front ++ entries
  pub begins : IsTrue (begins_entry rest)
  pub none : NoneBefore rest looked

abbrev pub IsAt : EntryPlace → ℕ → List ℕ → List (List ℕ) → List ℕ → Type 0
IsAt Front looked text parts rest = IsFront looked text parts rest
IsAt Entry looked text parts rest = IsBehind looked text parts rest

-- what is known of a text at a place, and of the bytes behind it that were looked at
pub record EntriesDivide (d : EntryParts) (text : List ℕ) (parts : List (List ℕ)) (rest : List ℕ)
    : Type 0 where
  pub at : IsAt d.place d.looked text parts rest
  pub within : d.looked ≤ length rest

-- ---- an entry's end

-- The entry ends at the line feed at this place, and the next begins behind it; or it doesn't end
-- in so many bytes, however they go on.
abbrev pub IsEntryEnd : List ℕ → EntryEnd → Type 0
IsEntryEnd held (Feed at) =
    (at < length held) × (slice_index held at ≡ line_feed)
    × IsTrue (begins_entry (drop (at + 1) held)) × NeverBefore held at
IsEntryEnd held (Open looked) = (looked ≤ length held) × NeverBefore held looked
