-- What is still to be written of initials, at a place in a given name.
use Rattle.std.specs.Prelude.{ℕ, List, [], ◌∷◌, ◌++◌, flat_map, if◌then◌else◌}
use Rattle.std.specs.List.{concat}
use Rattle.std.specs.Str.{trim_end}
use Rattle.haya_people.specs.declared.initials.Initials.{Initials}
use Rattle.haya_people.specs.declared.initials.Place.{Place}
use Rattle.haya_people.specs.declared.initials.Place.TheVariants.{Apart, Plain, Initial, BehindPlain}
use Rattle.haya_people.specs.declared.initials.Step.{Step}
use Rattle.haya_people.specs.Initials.{Grapheme, Style, stem, is_plain, is_separator, plain_separator, delimiter_for, gap_bytes, word_bytes}
use Rattle.haya_people.specs.Words.{Word, onto_word, onto_gap}

abbrev pub style_of : Initials → Style
style_of s = record { delimiter = s.delimiter.now; with_hyphen = s.with_hyphen }

abbrev pub words_bytes : Style → List (Word Grapheme) → List ℕ
words_bytes style ws = flat_map (word_bytes style) ws

-- what is to be written at a place: these words are left, the first being the rest
-- of the word or gap there
abbrev pub initials_left : Style → Place → List (Word Grapheme) → List ℕ
initials_left style Apart ws = words_bytes style ws
initials_left style Plain [] = []
initials_left style Plain ((word, seps) ∷ ws) =
    concat (stem word) ++ (gap_bytes style (is_plain word) seps ++ words_bytes style ws)
initials_left style Initial [] = trim_end style.delimiter
initials_left style Initial ((word, seps) ∷ ws) = delimiter_for style seps ++ words_bytes style ws
initials_left style BehindPlain [] = []
initials_left style BehindPlain (([], seps) ∷ ws) =
    flat_map (plain_separator style) seps ++ words_bytes style ws
initials_left style BehindPlain ((g ∷ word, seps) ∷ ws) = words_bytes style ((g ∷ word, seps) ∷ ws)

-- the words with one more grapheme before the first
abbrev pub one_more : Grapheme → List (Word Grapheme) → List (Word Grapheme)
one_more g left = if is_separator g then onto_gap g left else onto_word g left

-- what a step writes, and then what these words write at the place behind it
abbrev pub written_with : Style → Step → List (Word Grapheme) → List ℕ
written_with style step left =
    step.front.now ++ (step.back.now ++ initials_left style step.next left)
