-- What it is to cut a list into words, apart from how it is done.
use Rattle.std.specs.Prelude.{◌≡◌, ◌≢◌, Bool, true, false, List, [], ◌∷◌, ◌++◌, All}
use Rattle.haya_people.specs.Words.{Word, joined_words}

-- no item of the word is in a gap, and each item of the gap behind it is
pub record IsWord {X : Type 0} (is_gap : X → Bool) (w : Word X) : Type 0 where
  pub word : All (λ x. is_gap x ≡ false) w.0
  pub gap : All (λ x. is_gap x ≡ true) w.1

-- between two words stands a gap, and between two gaps a word
abbrev pub AreApart : {X : Type 0} → List (Word X) → Type 0
AreApart [] = Unit {0}
AreApart (w ∷ []) = w.0 ++ w.1 ≢ []
AreApart (w ∷ v ∷ ws) = (w.1 ≢ []) × (v.0 ≢ []) × AreApart (v ∷ ws)

-- words and gaps joined are the list, each is what it is to be, and none could be longer
pub record AreWords {X : Type 0} (is_gap : X → Bool) (xs : List X) (ws : List (Word X))
    : Type 0 where
  pub joined : joined_words ws ≡ xs
  pub each : All (IsWord is_gap) ws
  pub longest : AreApart ws
