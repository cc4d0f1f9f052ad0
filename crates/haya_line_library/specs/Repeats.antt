-- Keys that come again in a library's text.
use Rattle.std.specs.Prelude.{◌≡◌, ℕ, ◌+◌, Bool, false, List, [], ◌∷◌, ◌++◌, ◌==◌, length, map, string_bytes, Vec, Option, None, Some, is_some, if◌then◌else◌}
use Rattle.std.specs.declared.alloc.Global.{Global}
use Rattle.std.specs.List.{list_any, zip}
use Rattle.std.specs.Str.{bytes_eq}
use Rattle.std.specs.Str.Lines.{lines}
use Rattle.hayagriva.specs.Library.{get, key_of}
use Rattle.hayagriva.specs.Tree.{Tree}
use Rattle.haya_lines.specs.Items.{items}
use Rattle.haya_lines.specs.Line.{is_depth}
use Rattle.haya_line_library.specs.declared.repeat.Repeat.{Repeat}
use Rattle.haya_line_library.specs.Input.{Describes}

-- whether a line with these items has the depth 0, at which an entry of the library begins
abbrev pub begins : List (List ℕ) → Bool
begins [] = false
begins (depth ∷ more) = is_depth 0 depth

-- the numbers of the lines at which an entry begins, where the first line has the number n
abbrev pub entry_numbers : ℕ → List (List ℕ) → List ℕ
entry_numbers n [] = []
entry_numbers n (line ∷ more) =
    if begins (items line) then n ∷ entry_numbers (n + 1) more else entry_numbers (n + 1) more

-- of keys with numbers, in turn, those whose key is among the ones before
abbrev pub repeated : List (List ℕ) → List (List ℕ × ℕ) → List (List ℕ × ℕ)
repeated before [] = []
repeated before (k ∷ more) =
    (if list_any (bytes_eq k.0) before then k ∷ [] else [])
    ++ repeated (before ++ k.0 ∷ []) more

-- the keys of entries that an earlier entry has, each with the number of the line at which its
-- entry begins
abbrev pub repeats_of : List ℕ → List Tree → List (List ℕ × ℕ)
repeats_of text entries =
    repeated [] (zip (map key_of entries) (entry_numbers 1 (lines text)))

-- what was found by value
abbrev pub repeat_view : Repeat → List ℕ × ℕ
repeat_view r = (string_bytes r.key, r.line)

abbrev pub repeats_view : Vec Repeat Global → List (List ℕ × ℕ)
repeats_view v = map repeat_view v.items

-- the text describes the library, and these keys of its entries come again
pub record DescribesAgain (text : List ℕ) (library : List Tree) (repeats : List (List ℕ × ℕ))
    : Type 0 where
  pub describes : Describes text library
  pub repeats_are : repeats ≡ repeats_of text describes.entries

-- ---- steps on the way

-- the one entry that is open, where no more are: the last line that isn't empty began it
abbrev pub begun_of : List Tree → Option Tree
begun_of [] = None
begun_of (t ∷ []) = Some t
begun_of (t ∷ u ∷ more) = None

-- the key of the entry, where the library has it already
abbrev pub again : ℕ → List Tree → Option Tree → List (List ℕ × ℕ)
again number library None = []
again number library (Some t) =
    if is_some (get (key_of t) library) then (key_of t, number) ∷ [] else []

-- the same of the entry that a line with this number began
abbrev pub again_at : List ℕ → ℕ → List Tree → List Tree → List (List ℕ × ℕ)
again_at line number library chain =
    if length line == 0 then [] else again number library (begun_of chain)
