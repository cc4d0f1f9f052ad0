-- A list cut into words, with the gaps behind them.
use Rattle.std.specs.Prelude.{Bool, false, List, [], ◌∷◌, ◌++◌, flat_map, if◌then◌else◌}

-- whether there is a first item, and it passes
abbrev pub first_passes : {X : Type 0} → (X → Bool) → List X → Bool
first_passes p [] = false
first_passes p (x ∷ xs) = p x

-- a word, and the gap behind it
abbrev pub Word : Type 0 → Type 0
Word X = List X × List X

-- the words with one more item before the first
abbrev pub onto_word : {X : Type 0} → X → List (Word X) → List (Word X)
onto_word x [] = (x ∷ [], []) ∷ []
onto_word x ((word, gap) ∷ ws) = (x ∷ word, gap) ∷ ws

-- the words with one more item of a gap before the first; that gap stands behind no word
abbrev pub onto_gap : {X : Type 0} → X → List (Word X) → List (Word X)
onto_gap x [] = ([], x ∷ []) ∷ []
onto_gap x (([], gap) ∷ ws) = ([], x ∷ gap) ∷ ws
onto_gap x ((c ∷ word, gap) ∷ ws) = ([], x ∷ []) ∷ (c ∷ word, gap) ∷ ws

-- the longest runs of items that are in no gap, each with the longest run of items of a gap behind
-- it; the first word has no item where the list begins with a gap
unfoldable pub words : {X : Type 0} → (X → Bool) → List X → List (Word X)
words is_gap [] = []
words is_gap (x ∷ xs) =
    if is_gap x then onto_gap x (words is_gap xs) else onto_word x (words is_gap xs)

-- the words and gaps, joined
abbrev pub joined_words : {X : Type 0} → List (Word X) → List X
joined_words ws = flat_map (λ w. w.0 ++ w.1) ws
