-- The pieces that a text of pages is cut into, all by characters.
use Rattle.std.specs.Prelude.{◌≡◌, ◌≢◌, ◌==◌, ◌||◌, ◌⊎◌, ℕ, Bool, true, false, List, [], ◌∷◌, All, if◌then◌else◌}
use Rattle.std.specs.List.{concat}
use Rattle.haya_text.specs.Characters.{comma, begins_with}
use Rattle.haya_numbers.specs.Characters.{ampersand}

-- a character that is a piece of its own
abbrev pub is_separator : ℕ → Bool
is_separator c = c == comma || c == ampersand

-- a character before pieces: in the first where neither is a separator, otherwise alone
abbrev pub onto_pieces : ℕ → List (List ℕ) → List (List ℕ)
onto_pieces c [] = (c ∷ []) ∷ []
onto_pieces c (p ∷ ps) =
    if is_separator c || begins_with is_separator p then (c ∷ []) ∷ p ∷ ps else (c ∷ p) ∷ ps

-- each separator as a piece, and each longest run of other characters
abbrev pub pieces : List ℕ → List (List ℕ)
pieces [] = []
pieces (c ∷ cs) = onto_pieces c (pieces cs)

-- one separator
abbrev pub IsSeparator : List ℕ → Type 0
IsSeparator p = (c : ℕ) × (is_separator c ≡ true) × (p ≡ c ∷ [])

-- one character or more, none a separator
abbrev pub IsRun : List ℕ → Type 0
IsRun p = (p ≢ []) × All (λ c. is_separator c ≡ false) p

-- of two neighbours one is a separator
abbrev pub AreApart : List (List ℕ) → Type 0
AreApart [] = Unit {0}
AreApart (p ∷ []) = Unit {0}
AreApart (p ∷ q ∷ ps) = (IsSeparator p ⊎ IsSeparator q) × AreApart (q ∷ ps)

-- joined they are the text, each is a separator or a run, and the runs are the longest
pub record AreItsPieces (text : List ℕ) (ps : List (List ℕ)) : Type 0 where
  pub joined : concat ps ≡ text
  pub each : All (λ p. IsSeparator p ⊎ IsRun p) ps
  pub longest : AreApart ps
