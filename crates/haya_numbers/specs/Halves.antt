-- What it is to cut a text into halves at marks, apart from how it is done.
use Rattle.std.specs.Prelude.{◌≡◌, ◌≢◌, ◌⊎◌, ℕ, List, [], ◌∷◌, ◌++◌}
use Rattle.haya_text.specs.Characters.{hyphen}
use Rattle.haya_numbers.specs.Characters.{en_dash}
use Rattle.haya_numbers.specs.Cuts.{backslash}

-- a hyphen directly behind a backslash
abbrev pub IsEscapedHyphen : List ℕ → Type 0
IsEscapedHyphen mark = mark ≡ backslash ∷ hyphen ∷ []

-- a hyphen or an en dash
abbrev pub IsDash : List ℕ → Type 0
IsDash mark = (mark ≡ hyphen ∷ []) ⊎ (mark ≡ en_dash ∷ [])

-- no mark stands within the text
abbrev pub HasNoMark : (List ℕ → Type 0) → List ℕ → Type 0
HasNoMark IsMark text = (front mark back : List ℕ) → IsMark mark → text ≢ front ++ (mark ++ back)

-- the text is a half without a mark, then a mark, then the rest
pub record IsCut (IsMark : List ℕ → Type 0) (text half rest : List ℕ) : Type 0 where
  pub mark : List ℕ
  pub is : IsMark mark
  pub joined : text ≡ half ++ (mark ++ rest)
  pub none : HasNoMark IsMark half

-- the text is the halves with a mark between each two, and no mark stands within a half
abbrev pub AreHalves : (List ℕ → Type 0) → List ℕ → List (List ℕ) → Type 0
AreHalves IsMark text [] = ⊥
AreHalves IsMark text (half ∷ []) = (text ≡ half) × HasNoMark IsMark half
AreHalves IsMark text (half ∷ next ∷ more) =
    (rest : List ℕ) × IsCut IsMark text half rest × AreHalves IsMark rest (next ∷ more)
