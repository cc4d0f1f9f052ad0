-- Characters that begin no token but their own, and texts of them.
use Rattle.std.specs.Prelude.{ℕ, ◌==◌, ◌&&◌, ◌||◌, not, Bool, true, false, List, [], ◌∷◌, length, map, nat_lt, if◌then◌else◌}
use Rattle.std.specs.Char.{is_whitespace}
use Rattle.haya_latex.specs.Reading.{Reader, write}
use Rattle.haya_latex.specs.Scans.{begins_white}
use Rattle.haya_latex.specs.declared.kinds.Kind.{Kind}

-- a character that isn't white, and that no other rule is about
abbrev pub is_plain : ℕ → Bool
is_plain c =
    if (c == 33) || (c == 36) || (c == 39) || (c == 45) || (c == 63) then false
    else if (c == 92) || (c == 96) || (c == 123) || (c == 125) || (c == 126) then false
    else not (is_whitespace c)

-- a text in ASCII of plain characters and single blanks, which isn't empty, and in front of which a
-- blank may be or not, with none at its end
abbrev pub is_simple : Bool → List ℕ → Bool
is_simple behind [] = not behind
is_simple behind (x ∷ xs) =
    if x == 32 then not behind && is_simple true xs
    else nat_lt x 128 && is_plain x && is_simple false xs

-- characters of one kind
abbrev pub of_kind : Kind → List ℕ → List (ℕ × Kind)
of_kind k xs = map (λ x. (x, k)) xs

-- what the plain and white characters at the front of a text write: themselves, and a blank for each
-- run of white ones
abbrev pub quiet_front : List ℕ → List ℕ
quiet_front [] = []
quiet_front (x ∷ xs) =
    if is_whitespace x then (if begins_white xs then quiet_front xs else 32 ∷ quiet_front xs)
    else if is_plain x then x ∷ quiet_front xs
    else []

-- and what is behind them
abbrev pub quiet_rest : List ℕ → List ℕ
quiet_rest [] = []
quiet_rest (x ∷ xs) = if is_whitespace x || is_plain x then quiet_rest xs else x ∷ xs

-- a reader behind them, and what is left to read: where an accent waits, it goes over none
abbrev pub behind_quiet : List ℕ → Reader → Reader
behind_quiet xs s =
    if length s.waiting == 0 then write (of_kind s.inner.kind (quiet_front xs)) s else s

abbrev pub left_behind_quiet : List ℕ → Reader → List ℕ
left_behind_quiet xs s = if length s.waiting == 0 then quiet_rest xs else xs
