-- Tokens that are written one after another.
use Rattle.std.proofs.Common.{◌≡◌, List, [], ◌∷◌, ◌++◌, refl, ap}
use Rattle.json.specs.Token.{Token}

-- four tokens, a value and a last token
pub all_appended : (old : List Token) (b k s e : Token) (entry : List Token) (end : Token)
    → ((((((old ++ b ∷ []) ++ k ∷ []) ++ s ∷ []) ++ e ∷ []) ++ entry) ++ end ∷ []) ≡ old ++ b ∷ k ∷ s ∷ e ∷ (entry ++ end ∷ [])
all_appended [] b k s e entry end = refl
all_appended (t ∷ old) b k s e entry end = ap (λ ts. t ∷ ts) (all_appended old b k s e entry end)
