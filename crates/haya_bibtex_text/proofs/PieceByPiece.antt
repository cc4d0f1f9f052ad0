-- A value that is read one piece after another.
use Rattle.std.proofs.Common.{◌≡◌, ◌++◌, ℕ, List, [], ◌∷◌, Ok, Some, append_assoc, None}
use Rattle.haya_bibtex_text.specs.Pieces.{RawPiece, piece_at}
use Rattle.haya_bibtex_text.specs.Values.{FailsValue, IsValue, behind_joint, last_piece, later_piece, next_piece}
use Rattle.haya_bibtex_text.specs.Blanks.{behind_blank}
use Rattle.haya_bibtex_text.specs.declared.fault.Refusal.{Refusal}

-- what those so far and the pieces of any rest come to
abbrev pub Continues : ℕ → List ℕ → List RawPiece → List ℕ → Type 0
Continues e text acc at =
    (ps : List RawPiece) (rest : List ℕ) → IsValue e at ps rest → IsValue e text (acc ++ ps) rest

pub value_next : (e : ℕ) (text at left next : List ℕ) (acc new : List RawPiece) (p : RawPiece)
    → Continues e text acc at → piece_at e at ≡ Ok (p, left) → behind_joint left ≡ Some next
    → new ≡ acc ++ (p ∷ []) → Continues e text new next
value_next e text at left next acc new p so_far read joint is ps rest v =
    rw (is, append_assoc acc (p ∷ []) ps) (so_far (p ∷ ps) rest (next_piece read joint v))

pub fails_next : (e : ℕ) (text at left next : List ℕ) (p : RawPiece)
    → ((f : Refusal) → FailsValue e at f → FailsValue e text f) → piece_at e at ≡ Ok (p, left)
    → behind_joint left ≡ Some next → (f : Refusal) → FailsValue e next f → FailsValue e text f
fails_next e text at left next p so_far read joint f later = so_far f (later_piece read joint later)

pub value_last : (e : ℕ) (text at left rest : List ℕ) (acc new : List RawPiece) (p : RawPiece)
    → Continues e text acc at → piece_at e at ≡ Ok (p, left) → behind_joint left ≡ None
    → rest ≡ behind_blank left → new ≡ acc ++ (p ∷ []) → IsValue e text new rest
value_last e text at left rest acc new p so_far read joint end is =
    rw is (so_far (p ∷ []) rest (last_piece read joint end))
