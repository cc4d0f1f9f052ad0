-- A value: pieces with number signs between.
use Rattle.std.specs.Prelude.{◌≡◌, ℕ, ◌==◌, List, [], ◌∷◌, Option, Some, None, Ok, Err, if◌then◌else◌}
use Rattle.haya_bibtex_text.specs.Blanks.{behind_blank}
use Rattle.haya_bibtex_text.specs.Pieces.{RawPiece, piece_at}
use Rattle.haya_bibtex_text.specs.Signs.{number_sign}
use Rattle.haya_bibtex_text.specs.declared.fault.Refusal.{Refusal}

-- what is left behind a sign that begins a text, and the blank behind it
abbrev pub behind_sign : ℕ → List ℕ → Option (List ℕ)
behind_sign sign [] = None
behind_sign sign (c ∷ cs) = if c == sign then Some (behind_blank cs) else None

-- what is left behind a blank, a number sign and a blank
abbrev pub behind_joint : List ℕ → Option (List ℕ)
behind_joint left = behind_sign number_sign (behind_blank left)

-- The text begins with a value of these pieces, and a blank; the rest is left. So many characters
-- are left at the entry that it is in.
pub data IsValue (entry : ℕ) : List ℕ → List RawPiece → List ℕ → Type 0 where
  last_piece : {text left rest : List ℕ} {p : RawPiece} → piece_at entry text ≡ Ok (p, left) →
      behind_joint left ≡ None → rest ≡ behind_blank left → IsValue entry text (p ∷ []) rest
  next_piece : {text left next rest : List ℕ} {p : RawPiece} {ps : List RawPiece} →
      piece_at entry text ≡ Ok (p, left) → behind_joint left ≡ Some next →
      IsValue entry next ps rest → IsValue entry text (p ∷ ps) rest

-- the first fault of a value
pub data FailsValue (entry : ℕ) : List ℕ → Refusal → Type 0 where
  no_piece : {text : List ℕ} {f : Refusal} → piece_at entry text ≡ Err f → FailsValue entry text f
  later_piece : {text left next : List ℕ} {p : RawPiece} {f : Refusal} →
      piece_at entry text ≡ Ok (p, left) → behind_joint left ≡ Some next →
      FailsValue entry next f → FailsValue entry text f
