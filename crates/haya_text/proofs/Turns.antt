-- What a loop has made of one item more.
use Rattle.std.proofs.Common.{◌≡◌, List, [], ◌∷◌, ◌++◌, flat_map, sym, ap, ◌∙◌, append-nil}
use Rattle.std.proofs.lemmas.Grind.{flat_map-append}

pub flat_map-turn : {X A : Type 0} (f : X → List A) (xs : List X) (x : X) (made : List A)
    → made ≡ f x → flat_map f xs ++ made ≡ flat_map f (xs ++ x ∷ [])
flat_map-turn f xs x made is =
    ap (λ ys. flat_map f xs ++ ys) (is ∙ sym (append-nil (f x))) ∙ sym (flat_map-append f xs (x ∷ []))
