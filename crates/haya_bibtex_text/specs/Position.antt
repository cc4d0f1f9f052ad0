-- Where a fault is.
use Rattle.std.specs.Prelude.{ℕ, ◌+◌, ◌-◌, ◌==◌, List, fold, length, take, if◌then◌else◌}
use Rattle.haya_bibtex_text.specs.Signs.{line_feed}
use Rattle.haya_bibtex_text.specs.declared.fault.Fault.{Fault}
use Rattle.haya_bibtex_text.specs.declared.fault.Refusal.{Refusal}
use Rattle.haya_bibtex_text.specs.declared.position.Position.{Position}

-- the position behind a character: a line feed begins a line
abbrev pub behind_char : Position → ℕ → Position
behind_char p c =
    if c == line_feed then record { line = p.line + 1; column = 1 }
    else record { line = p.line; column = p.column + 1 }

-- the position behind characters that begin a text
abbrev pub position_behind : List ℕ → Position
position_behind cs = fold behind_char (record { line = 1; column = 1 }) cs

-- a fault with its line and its column, in place of how many characters are left
abbrev pub fault_of : List ℕ → Refusal → Fault
fault_of text f =
    let p = position_behind (take (length text - f.left) text) in
    record { kind = f.kind; line = p.line; column = p.column }
