-- The piece at the front of a text.
use Rattle.std.specs.Prelude.{ℕ, suc, ◌-◌, ◌==◌, ◌&&◌, ◌||◌, not, nat_lt, List, [], ◌∷◌, take, drop, length, Result, Ok, Err, if◌then◌else◌}
use Rattle.std.specs.List.{prefix_len}
use Rattle.haya_bibtex_text.specs.Classes.{in_name, is_digit}
use Rattle.haya_bibtex_text.specs.Groups.{End, closed, stray, nowhere, end_of}
use Rattle.haya_bibtex_text.specs.Signs.{open_brace, close_brace, quote}
use Rattle.haya_bibtex_text.specs.declared.fault.FaultKind.{FaultKind}
use Rattle.haya_bibtex_text.specs.declared.fault.FaultKind.TheVariants as kind
use Rattle.haya_bibtex_text.specs.declared.fault.Refusal.{Refusal}

-- a piece: a text; or the name of a string, at which so many characters of the text are left
pub data RawPiece : Type 0 where
  text : List ℕ → RawPiece
  name : ℕ → List ℕ → RawPiece

-- a fault of this kind where so many characters are left
abbrev pub fault : FaultKind → ℕ → Refusal
fault k n = record { kind = k; left = n }

-- what is read at the front of a text, and what is left of it, or the fault
abbrev pub Read : Type 0 → Type 0
Read A = Result (A × List ℕ) Refusal

abbrev pub enclosed_piece_by : ℕ → List ℕ → End → Read RawPiece
enclosed_piece_by place cs (closed n) = Ok (text (take n cs), drop (suc n) cs)
enclosed_piece_by place cs (stray n) = Err (fault kind.Brace (length cs - n))
enclosed_piece_by place cs nowhere = Err (fault kind.Open place)

-- a balanced text up to the sign; so many characters are left at the sign that opens it
abbrev pub enclosed_piece : ℕ → ℕ → List ℕ → Read RawPiece
enclosed_piece place sign cs = enclosed_piece_by place cs (end_of sign cs)

-- a name of so many characters, of which so many are digits in front
abbrev pub word_by : ℕ → ℕ → List ℕ → Read RawPiece
word_by n d cs =
    if (n == 0) || (nat_lt 0 d && not (d == n)) then Err (fault kind.Value (length cs))
    else Ok (if d == 0 then name (length cs) (take n cs) else text (take n cs), drop n cs)

-- a number, or the name of a string
abbrev pub word_at : List ℕ → Read RawPiece
word_at cs = word_by (prefix_len in_name cs) (prefix_len is_digit cs) cs

-- so many characters are left at the entry that the piece is in
abbrev pub piece_at : ℕ → List ℕ → Read RawPiece
piece_at entry [] = Err (fault kind.Open entry)
piece_at entry (c ∷ cs) =
    if c == open_brace then enclosed_piece (suc (length cs)) close_brace cs
    else if c == quote then enclosed_piece (suc (length cs)) quote cs
    else word_at (c ∷ cs)
