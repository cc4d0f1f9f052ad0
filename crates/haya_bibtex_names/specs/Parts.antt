-- Texts between signs, and the texts of words.
use Rattle.std.specs.Prelude.{ℕ, suc, ◌==◌, ◌&&◌, ◌||◌, Bool, true, false, List, [], ◌∷◌, drop, take, flat_map, map, encode_utf8_all, if◌then◌else◌, Option, option_map}
use Rattle.std.specs.List.{position}
use Rattle.haya_bibtex_names.specs.Signs.{is_sign}
use Rattle.haya_bibtex_names.specs.Words.{Text}

-- what is before the first such sign that nothing protects, and what is behind it
abbrev pub sides : ℕ → Text → Option (Text × Text)
sides c xs = option_map (λ n. (take n xs, drop (suc n) xs)) (position (is_sign c) xs)

abbrev pub is_empty : {X : Type 0} → List X → Bool
is_empty [] = true
is_empty (x ∷ xs) = false

-- a list without what passes a test at its end
abbrev pub without_end : {X : Type 0} → (X → Bool) → List X → List X
without_end p [] = []
without_end p (x ∷ xs) = if p x && is_empty (without_end p xs) then [] else x ∷ without_end p xs

-- the characters of words, with a blank in front of each word
abbrev pub word_chars : List Text → List ℕ
word_chars ws = flat_map (λ w. 32 ∷ map (λ x. x.0) w) ws

-- a blank, or one that doesn't break
abbrev pub is_blank : ℕ → Bool
is_blank c = (c == 32) || (c == 160)

-- a blank for blanks side by side, and none at the ends
abbrev pub single_blanks_in : Bool → Bool → List ℕ → List ℕ
single_blanks_in started gap [] = []
single_blanks_in started gap (c ∷ cs) =
    if is_blank c then single_blanks_in started true cs
    else if started && gap then 32 ∷ c ∷ single_blanks_in true false cs
    else c ∷ single_blanks_in true false cs

abbrev pub single_blanks : List ℕ → List ℕ
single_blanks cs = single_blanks_in false false cs

-- the text of words, in UTF-8
abbrev pub words_text : List Text → List ℕ
words_text ws = encode_utf8_all (single_blanks (word_chars ws))
