-- Entries, printed.
use Rattle.std.specs.Prelude.{ℕ, List, [], ◌++◌, codes, flat_map, nat_eq, if◌then◌else◌}
use Rattle.std.specs.List.{ends_with}

-- what ends an entry's last line: nothing more where a line feed does, and where a carriage return
-- is its last byte, one more, which is no part of the line
abbrev pub end_for : List ℕ → List ℕ
end_for part =
    if ends_with nat_eq part (codes "\n") then []
    else if ends_with nat_eq part (codes "\r") then codes "\r\n" else codes "\n"

-- entries one behind the other, each of whole lines
abbrev pub entries_text : List (List ℕ) → List ℕ
entries_text parts = flat_map (λ p. p ++ end_for p) parts
