-- The first piece of a text.
use Rattle.std.proofs.Common.{◌≡◌, ℕ, ◌+◌, true, false, List, [], ◌∷◌, ◌++◌, length, take, drop, refl, ap, ◌∙◌}
use Rattle.std.specs.List.{AllByRecursion}
use Rattle.std.specs.Prelude.{slice_get, IfSome}
use Rattle.std.specs.Str.{IsUtf8, chars, encode_utf8_all}
use Rattle.haya_numbers.proofs.Places.{IsCutAt, cut_at}
use Rattle.haya_numbers.specs.Pieces.{is_separator, onto_pieces, pieces}

-- a separator first
onto_pieces-separator : (c : ℕ) (ps : List (List ℕ)) → is_separator c ≡ true → onto_pieces c ps ≡ (c ∷ []) ∷ ps
onto_pieces-separator c [] h = refl
onto_pieces-separator c (p ∷ ps) h = rw h refl

pub pieces-separator : (c : ℕ) (cs : List ℕ) → is_separator c ≡ true → pieces (c ∷ cs) ≡ (c ∷ []) ∷ pieces cs
pieces-separator c cs h = onto_pieces-separator c (pieces cs) h

-- a run first, behind which stands a separator or nothing
onto_pieces-last : (c : ℕ) (rest : List ℕ) → is_separator c ≡ false → IfSome (slice_get rest 0) (λ d. is_separator d ≡ true) → onto_pieces c (pieces rest) ≡ (c ∷ []) ∷ pieces rest
onto_pieces-last c [] h stops = refl
onto_pieces-last c (d ∷ ds) h stops = rw (pieces-separator d ds stops, h, stops) refl

pub pieces-run : (c : ℕ) (cs rest : List ℕ) → is_separator c ≡ false → AllByRecursion (λ d. is_separator d ≡ false) cs → IfSome (slice_get rest 0) (λ d. is_separator d ≡ true) → pieces (c ∷ (cs ++ rest)) ≡ (c ∷ cs) ∷ pieces rest
pieces-run c [] rest h all stops = onto_pieces-last c rest h stops
pieces-run c (d ∷ ds) rest h all stops = rw (pieces-run d ds rest all.0 all.1 stops, h, all.0) refl

-- a text is cut behind its first piece, which is known by its characters
pub piece_cut : (text piece back : List ℕ) (place : ℕ) → IsUtf8 text → chars text ≡ piece ++ back → place + length (encode_utf8_all back) ≡ length (encode_utf8_all (chars text)) → pieces (piece ++ back) ≡ piece ∷ pieces back → pieces (chars text) ≡ chars (take place text) ∷ pieces (chars (drop place text))
piece_cut text piece back place u cut len first =
    let at : IsCutAt text piece back place = cut_at text piece back place u cut len in
    rw (at.front, at.back) (ap pieces cut ∙ first)
