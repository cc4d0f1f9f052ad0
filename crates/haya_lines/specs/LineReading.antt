-- What the functions that read a line answer.
use Rattle.std.specs.Prelude.{◌≡◌, ◌⊎◌, ℕ, ◌≤◌, List, Result, Err, IsOkAnd}
use Rattle.haya_entry.specs.Tree.{Fields, fields, new_entry, view, with_fields}
use Rattle.haya_entry.specs.declared.entry.Entry.{Entry}
use Rattle.haya_lines.specs.Line.{Row, fields_read, leaf, row_at, row_read}
use Rattle.haya_lines.specs.declared.line.Head.{Head}
use Rattle.haya_lines.specs.declared.error.LineError.{LineError}
use Rattle.haya_lines.specs.declared.error.LineError.TheVariants.{OutOfMemory}

-- the depth and the entry of the row that is read
abbrev pub IsRow : Result Row LineError → ℕ × Entry → Type 0
IsRow read found = IsOkAnd read (λ row. (found.0 ≡ row.depth) × (view found.1 ≡ leaf row.fields))

-- what is left of the row's items to read are the fields of an entry with the head's key and type
abbrev pub IsHead : ℕ → List (List ℕ) → List (List ℕ) → Head → Type 0
IsHead deepest items left head =
    (row_read deepest items
    ≡ row_at head.depth (fields_read (fields (new_entry head.key.now head.kind)) left))
    × (head.depth ≤ deepest)

-- the entry has the fields that are read in the place of its own
abbrev pub SetsFields : Result Fields LineError → Entry → Entry → Type 0
SetsFields read old new = IsOkAnd read (λ f. view new ≡ with_fields (λ _. f) (view old))

-- the fault that is read, or out of memory
abbrev pub IsFaultOf : {T : Type 0} → Result T LineError → LineError → Type 0
IsFaultOf read e = (e ≡ OutOfMemory) ⊎ (read ≡ Err e)
