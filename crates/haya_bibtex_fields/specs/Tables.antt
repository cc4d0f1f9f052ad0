-- Tables of names and what they stand for.
use Rattle.std.specs.Prelude.{ℕ, List, [], ◌∷◌, Option, None, Some, if◌then◌else◌}
use Rattle.std.specs.Borrow.{Bor}
use Rattle.std.specs.Str.{bytes_eq}
use Rattle.haya_text.specs.Chunks.{Chunk, plain_text}

-- names and their texts
abbrev pub Table : Type 0
Table = List (List ℕ × List ℕ)

-- the text that a table has for a name
abbrev pub text_under : Table → List ℕ → Option (List ℕ)
text_under [] n = None
text_under (r ∷ rs) n = if bytes_eq n r.0 then Some r.1 else text_under rs n

-- the rows of the code's tables by value
abbrev pub row_view : Bor (List ℕ) × Bor (List ℕ) → List ℕ × List ℕ
row_view r = (r.0.now, r.1.now)

-- one chunk of that text, or what there is in its place
abbrev pub text_or : Option (List ℕ) → Option (List Chunk) → Option (List Chunk)
text_or None other = other
text_or (Some text) other = Some (plain_text text)

-- the text that a table has for a name, if there is a name; otherwise the other
abbrev pub named_or : Table → Option (List ℕ) → Option (List Chunk) → Option (List Chunk)
named_or table None other = other
named_or table (Some name) other = text_or (text_under table name) other
