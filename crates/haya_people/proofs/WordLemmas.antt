-- Words of a list, at its beginning and joined.
use Rattle.std.proofs.Common.{◌≡◌, Bool, true, false, cond, List, [], ◌∷◌, ◌++◌, refl, ap, ◌∙◌}
use Rattle.std.specs.List.{AllByRecursion}
use Rattle.haya_people.specs.Words.{Word, words, onto_word, onto_gap, joined_words}

-- no item is in a gap
abbrev pub Inner : {X : Type 0} → (X → Bool) → List X → Type 0
Inner p xs = AllByRecursion (λ x. p x ≡ false) xs

joined-onto_word : {X : Type 0} (x : X) (ws : List (Word X)) → joined_words (onto_word x ws) ≡ x ∷ joined_words ws
joined-onto_word x [] = refl
joined-onto_word x ((w, g) ∷ ws) = refl

joined-onto_gap : {X : Type 0} (x : X) (ws : List (Word X)) → joined_words (onto_gap x ws) ≡ x ∷ joined_words ws
joined-onto_gap x [] = refl
joined-onto_gap x (([], g) ∷ ws) = refl
joined-onto_gap x ((c ∷ w, g) ∷ ws) = refl

-- the words and gaps of a list make it up
pub joined_words-words : {X : Type 0} (is_gap : X → Bool) (xs : List X) → joined_words (words is_gap xs) ≡ xs
unfolding words
joined_words-words is_gap [] = refl
joined_words-words is_gap (x ∷ xs) = onto (is_gap x) ∙ ap (λ ys. x ∷ ys) (joined_words-words is_gap xs)
  where
    onto : (b : Bool) → joined_words (cond b (onto_gap x (words is_gap xs)) (onto_word x (words is_gap xs))) ≡ x ∷ joined_words (words is_gap xs)
    onto true = joined-onto_gap x (words is_gap xs)
    onto false = joined-onto_word x (words is_gap xs)

-- a word before a gap, and one at the end
pub word-before : {X : Type 0} (p : X → Bool) (word xs gap : List X) (ws : List (Word X)) → Inner p word → words p xs ≡ ([], gap) ∷ ws → words p (word ++ xs) ≡ (word, gap) ∷ ws
unfolding words
word-before p [] xs gap ws h e = e
word-before p (x ∷ word) xs gap ws h e = rw (h.0, word-before p word xs gap ws h.1 e) refl

pub word-last : {X : Type 0} (p : X → Bool) (x : X) (word : List X) → Inner p (x ∷ word) → words p (x ∷ word) ≡ (x ∷ word, []) ∷ []
unfolding words
word-last p x [] h = rw h.0 refl
word-last p x (y ∷ word) h = rw (h.0, word-last p y word h.1) refl
