-- The entries of a text in lines, as they are in it, byte for byte.
use Rattle.std.specs.Prelude.{◌≡◌, ◌||◌, ℕ, Bool, IsFalse, IsTrue, List, [], ◌∷◌, ◌++◌, Ok, codes, nat_eq}
use Rattle.std.specs.List.{AllByRecursion, concat, flat_map, starts_with}
use Rattle.std.specs.Str.Lines.{lines}
use Rattle.haya_entry.specs.Tree.{Tree, trees}
use Rattle.haya_line_library.specs.Input.{rows_of_all, rows_read}

-- a line begins with a depth of zero: it is an entry of the library, and no parent
abbrev pub begins_entry : List ℕ → Bool
begins_entry line =
    starts_with nat_eq line (codes "0\t") || starts_with nat_eq line (codes "00\t")
    || starts_with nat_eq line (codes "000\t")

-- of these lines none is an entry of the library
abbrev pub BeginNone : List (List ℕ) → Type 0
BeginNone ls = AllByRecursion (λ line. IsFalse (begins_entry line)) ls

-- a line that is an entry of the library, and the lines up to the next such line
pub record IsEntryPart (part : List ℕ) : Type 0 where
  pub first : List ℕ
  pub more : List (List ℕ)
  pub is : lines part ≡ first ∷ more
  pub begins : IsTrue (begins_entry first)
  pub behind : BeginNone more

-- The text is a front without entries and these parts, of whole lines, each from an entry up to the
-- next.
pub record AreEntryParts (text : List ℕ) (parts : List (List ℕ)) : Type 0 where
  pub front : List ℕ
  pub is : text ≡ front ++ concat parts
  pub whole : lines text ≡ lines front ++ flat_map lines parts
  pub before : BeginNone (lines front)
  pub each : AllByRecursion IsEntryPart parts

-- a text in lines lists one entry, with its parents
abbrev pub IsEntryOf : List ℕ → Tree → Type 0
IsEntryOf part entry = rows_read 1 0 (lines part) ≡ Ok (rows_of_all 0 (trees (entry ∷ [])))
