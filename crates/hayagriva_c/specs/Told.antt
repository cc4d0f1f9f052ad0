-- What is told of a text that is refused.
use Rattle.std.specs.Prelude.{◌≡◌, ℕ, List, []}
use Rattle.hayagriva_c.specs.declared.told.Told.{Told}

-- the code c, the byte at, the line l and the column k; and the words: the pointer p, the name n and
-- the whole reason r
pub record IsTold (c at l k : ℕ) (p n r : List ℕ) (told : Told)
    : Type 0 where
  pub code : told.code ≡ c
  pub offset : told.offset ≡ at
  pub line : told.line ≡ l
  pub column : told.column ≡ k
  pub pointer : told.words.pointer.items ≡ p
  pub name : told.words.name.items ≡ n
  pub reason : told.words.reason.items ≡ r

-- an allocation failed, which says nothing of any text
abbrev pub IsMemoryTold : Told → Type 0
IsMemoryTold = IsTold 6 0 0 0 [] [] []
