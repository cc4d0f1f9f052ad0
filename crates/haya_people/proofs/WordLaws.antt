-- The words of a list are the one cut of it into longest runs.
use Rattle.std.proofs.Common.{◌≡◌, ◌≢◌, Bool, true, false, cond, List, [], ◌∷◌, ◌++◌, refl, ap, sym, ◌∙◌, append_assoc}
use Rattle.std.proofs.lemmas.List.{append-nil}
use Rattle.std.proofs.lemmas.List.Elements.{All-from_recursion, recursion_from_All}
use Rattle.std.specs.List.{AllByRecursion}
use Rattle.haya_people.specs.Words.{Word, words, onto_word, onto_gap, joined_words}
use Rattle.haya_people.specs.WordCuts.{AreApart, AreWords, IsWord}
use Rattle.haya_people.proofs.WordLemmas.{Inner, joined_words-words, word-before, word-last}

-- the facts, by recursion
abbrev Gap : {X : Type 0} → (X → Bool) → List X → Type 0
Gap p xs = AllByRecursion (λ x. p x ≡ true) xs

abbrev Each : {X : Type 0} → (X → Bool) → List (Word X) → Type 0
Each p ws = AllByRecursion (λ w. Inner p w.0 × Gap p w.1) ws

-- the first word, if there is one, has an item
abbrev BeginsWithWord : {X : Type 0} → List (Word X) → Type 0
BeginsWithWord [] = Unit {0}
BeginsWithWord (w ∷ ws) = w.0 ≢ []

-- one more item of a gap
each-onto_gap : {X : Type 0} (p : X → Bool) (x : X) (ws : List (Word X)) → p x ≡ true → Each p ws → Each p (onto_gap x ws)
each-onto_gap p x [] h each = ((tt, (h, tt)), tt)
each-onto_gap p x (([], gap) ∷ ws) h each = ((tt, (h, each.0.1)), each.1)
each-onto_gap p x ((c ∷ word, gap) ∷ ws) h each = ((tt, (h, tt)), each)

apart-onto_gap : {X : Type 0} (x : X) (ws : List (Word X)) → AreApart ws → AreApart (onto_gap x ws)
apart-onto_gap x [] apart = λ e. cc
apart-onto_gap x (([], gap) ∷ []) apart = λ e. cc
apart-onto_gap x (([], gap) ∷ v ∷ ws) apart = (λ e. cc, apart.1, apart.2)
apart-onto_gap x ((c ∷ word, gap) ∷ ws) apart = (λ e. cc, λ e. cc, apart)

-- one more item of a word
each-onto_word : {X : Type 0} (p : X → Bool) (x : X) (ws : List (Word X)) → p x ≡ false → Each p ws → Each p (onto_word x ws)
each-onto_word p x [] h each = (((h, tt), tt), tt)
each-onto_word p x ((word, gap) ∷ ws) h each = (((h, each.0.0), each.0.1), each.1)

apart-onto_word : {X : Type 0} (x : X) (ws : List (Word X)) → AreApart ws → AreApart (onto_word x ws)
apart-onto_word x [] apart = λ e. cc
apart-onto_word x ((word, gap) ∷ []) apart = λ e. cc
apart-onto_word x ((word, gap) ∷ v ∷ ws) apart = apart

each : {X : Type 0} (p : X → Bool) (xs : List X) → Each p (words p xs)
unfolding words
each p [] = tt
each p (x ∷ xs) = go (p x) refl (each p xs)
  where
    go : (b : Bool) → p x ≡ b → Each p (words p xs) → Each p (cond b (onto_gap x (words p xs)) (onto_word x (words p xs)))
    go true h more = each-onto_gap p x (words p xs) h more
    go false h more = each-onto_word p x (words p xs) h more

apart : {X : Type 0} (p : X → Bool) (xs : List X) → AreApart (words p xs)
unfolding words
apart p [] = tt
apart p (x ∷ xs) = go (p x) (apart p xs)
  where
    go : (b : Bool) → AreApart (words p xs) → AreApart (cond b (onto_gap x (words p xs)) (onto_word x (words p xs)))
    go true more = apart-onto_gap x (words p xs) more
    go false more = apart-onto_word x (words p xs) more

-- a gap before words
onto_gap-first : {X : Type 0} (x : X) (ws : List (Word X)) → BeginsWithWord ws → onto_gap x ws ≡ ([], x ∷ []) ∷ ws
onto_gap-first x [] begins = refl
onto_gap-first x (([], gap) ∷ ws) begins = absurd (begins refl)
onto_gap-first x ((c ∷ word, gap) ∷ ws) begins = refl

gap-before : {X : Type 0} (p : X → Bool) (x : X) (gap xs : List X) → Gap p (x ∷ gap) → BeginsWithWord (words p xs) → words p (x ∷ (gap ++ xs)) ≡ ([], x ∷ gap) ∷ words p xs
unfolding words
gap-before p x [] xs h begins = rw h.0 (onto_gap-first x (words p xs) begins)
gap-before p x (y ∷ gap) xs h begins = rw (h.0, gap-before p y gap xs h.1 begins) refl

-- behind a gap a word begins
begins-behind : {X : Type 0} (w : Word X) (ws : List (Word X)) → AreApart (w ∷ ws) → BeginsWithWord ws
begins-behind w [] h = tt
begins-behind w (v ∷ ws) h = h.1

apart-behind : {X : Type 0} (w : Word X) (ws : List (Word X)) → AreApart (w ∷ ws) → AreApart ws
apart-behind w [] h = tt
apart-behind w (v ∷ ws) h = h.2

words-joined : {X : Type 0} (p : X → Bool) (ws : List (Word X)) → Each p ws → AreApart ws → words p (joined_words ws) ≡ ws
unfolding words
words-joined p [] each h = refl
words-joined p (([], []) ∷ []) each h = absurd (h refl)
words-joined p ((x ∷ word, []) ∷ []) each h = rw (append-nil (word ++ []), append-nil word) (word-last p x word each.0.0)
words-joined p ((word, []) ∷ v ∷ ws) each h = absurd (h.0 refl)
words-joined p ((word, x ∷ gap) ∷ ws) each h =
    let rest = words-joined p ws each.1 (apart-behind (word, x ∷ gap) ws h) in
    ap (words p) (append_assoc word (x ∷ gap) (joined_words ws))
    ∙ word-before p word (x ∷ (gap ++ joined_words ws)) (x ∷ gap) ws each.0.0
    (gap-before p x gap (joined_words ws) each.0.1 (rw rest (begins-behind (word, x ∷ gap) ws h)) ∙ ap (λ l. ([], x ∷ gap) ∷ l) rest)

-- the facts of words in both forms
IsWord-from : {X : Type 0} (p : X → Bool) (ws : List (Word X)) → Each p ws → AllByRecursion (IsWord p) ws
IsWord-from p [] each = tt
IsWord-from p (w ∷ ws) each = (record { word = All-from_recursion (λ x. p x ≡ false) w.0 each.0.0; gap = All-from_recursion (λ x. p x ≡ true) w.1 each.0.1 }, IsWord-from p ws each.1)

each-from : {X : Type 0} (p : X → Bool) (ws : List (Word X)) → AllByRecursion (IsWord p) ws → Each p ws
each-from p [] all = tt
each-from p (w ∷ ws) all = ((recursion_from_All (λ x. p x ≡ false) w.0 all.0.word, recursion_from_All (λ x. p x ≡ true) w.1 all.0.gap), each-from p ws all.1)

pub AreWords-words : {X : Type 0} (p : X → Bool) (xs : List X) → AreWords p xs (words p xs)
AreWords-words p xs = record {
  joined = joined_words-words p xs;
  each = All-from_recursion (IsWord p) (words p xs) (IsWord-from p (words p xs) (each p xs));
  longest = apart p xs;
}

pub words-only : {X : Type 0} (p : X → Bool) (xs : List X) (ws : List (Word X)) → AreWords p xs ws → ws ≡ words p xs
words-only p xs ws h = sym (ap (words p) (sym h.joined) ∙ words-joined p ws (each-from p ws (recursion_from_All (IsWord p) ws h.each)) h.longest)
