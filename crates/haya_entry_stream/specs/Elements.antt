-- The elements of an input whose reader is lent.
use Rattle.std.specs.Prelude.{ℕ, List, Option}
use Rattle.haya_json_elements.specs.Remaining.{lines_remaining, reader_of}
use Rattle.haya_json_elements.specs.declared.lines.ElementLines.{ElementLines}
use Rattle.haya_entry_stream.specs.declared.lent.Lent.{Lent}

-- the name of the loan
abbrev pub loan_of : {R K : Type 0} → ElementLines (Lent R K) → ℕ
loan_of lines = (reader_of lines).reader.ghost_name

-- the lines of what the reader has left, where that is known
abbrev pub lines_left : {R K : Type 0} → (R → Option (List ℕ)) → ElementLines (Lent R K)
    → Option (List ℕ)
lines_left remaining lines = lines_remaining (λ lent. remaining lent.reader.now) lines
