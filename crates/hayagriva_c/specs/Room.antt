-- Texts that are written into a room.
use Rattle.std.specs.Prelude.{◌≡◌, ℕ, List, ◌++◌, length, min, take, drop}

-- the room with as many bytes of the text as it has room for, and then what was there
abbrev pub filled : List ℕ → List ℕ → List ℕ
filled text room =
    take (min (length text) (length room)) text ++ drop (min (length text) (length room)) room

-- the text is written, and its length is answered
abbrev pub Writes : List ℕ → ℕ → List ℕ → List ℕ → Type 0
Writes text answer old new = (answer ≡ length text) × (new ≡ filled text old)
