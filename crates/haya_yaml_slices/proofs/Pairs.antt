-- Texts of two lists, place by place.
use Rattle.std.proofs.Common.{◌≡◌, ℕ, ◌+◌, ◌<◌, List, [], ◌∷◌, ◌++◌, map, length, take, get_or, sym, ap, ap₂, ◌∙◌, subst}
use Rattle.std.specs.Borrow.{Bor}
use Rattle.std.specs.List.{AllZip}
use Rattle.std.proofs.lemmas.List.{map-append, take_more}
use Rattle.std.proofs.lemmas.List.Elements.{AllZip-push}

-- the bytes of texts
abbrev pub texts : List (Bor (List ℕ)) → List (List ℕ)
texts = map (λ s. s.now)

pub texts_more : (ls : List (Bor (List ℕ))) (n : ℕ) (d : Bor (List ℕ)) → n < length ls → texts (take (n + 1) ls) ≡ texts (take n ls) ++ (get_or ls n d).now ∷ []
texts_more ls n d within = ap texts (take_more ls n d within) ∙ map-append (λ s. s.now) (take n ls) (get_or ls n d ∷ [])

-- one more is the same
pub same_more : (xs ys : List (Bor (List ℕ))) (n : ℕ) (d : Bor (List ℕ)) → n < length xs → n < length ys → texts (take n xs) ≡ texts (take n ys)
    → (get_or xs n d).now ≡ (get_or ys n d).now → texts (take (n + 1) xs) ≡ texts (take (n + 1) ys)
same_more xs ys n d within also so_far here =
    texts_more xs n d within ∙ ap₂ (λ ts t. ts ++ t ∷ []) so_far here ∙ sym (texts_more ys n d also)

-- one more is so related
pub related_more : (R : List ℕ → List ℕ → Type 0) (xs ys : List (Bor (List ℕ))) (n : ℕ) (d : Bor (List ℕ)) → n < length xs → n < length ys
    → AllZip R (texts (take n xs)) (texts (take n ys)) → R (get_or xs n d).now (get_or ys n d).now → AllZip R (texts (take (n + 1) xs)) (texts (take (n + 1) ys))
related_more R xs ys n d within also so_far here =
    let pushed = AllZip-push R (texts (take n xs)) (texts (take n ys)) (get_or xs n d).now (get_or ys n d).now so_far here in
    subst (λ us. AllZip R us (texts (take (n + 1) ys))) (sym (texts_more xs n d within))
    (subst (λ us. AllZip R (texts (take n xs) ++ (get_or xs n d).now ∷ []) us) (sym (texts_more ys n d also)) pushed)
