-- Passing over what belongs to a piece already.
use Rattle.std.proofs.Common.{◌≡◌, ℕ, zero, suc, List, [], ◌∷◌, ◌++◌, ◌∙◌, append_assoc, ap, drop, option_to_list, refl, sym}
use Rattle.haya_bibtex_values.specs.Standing.{piece_at, standing, standing_in}
use Rattle.haya_bibtex_values.specs.declared.standing.Piece.{Piece}

standing_drop : (n : ℕ) (cs : List ℕ) → standing_in n cs ≡ standing (drop n cs)
standing_drop zero cs = refl
standing_drop (suc n) [] = refl
standing_drop (suc n) (c ∷ cs) = standing_drop n cs

-- what a text stands for goes on behind a piece
pub next_piece : (whole before : List ℕ) (x : ℕ) (xs rest after : List ℕ) (p : Piece) →
    whole ≡ before ++ standing (x ∷ xs) →
    p ≡ piece_at x xs →
    after ≡ before ++ option_to_list p.sign →
    rest ≡ drop p.length xs →
    whole ≡ after ++ standing rest
next_piece whole before x xs rest after p e is written left =
    let here : before ++ standing (x ∷ xs) ≡ before ++ (option_to_list p.sign ++ standing_in p.length xs) =
    ap (λ (q : Piece). before ++ (option_to_list q.sign ++ standing_in q.length xs)) (sym is) in
    let on : standing_in p.length xs ≡ standing rest = standing_drop p.length xs ∙ ap standing (sym left) in
    let joined : before ++ (option_to_list p.sign ++ standing_in p.length xs) ≡ after ++ standing rest =
    rw (on, written) (sym (append_assoc before (option_to_list p.sign) (standing rest))) in
    e ∙ (here ∙ joined)
