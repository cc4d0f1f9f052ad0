-- The parts of a name by its words and commas.
use Rattle.std.specs.Prelude.{ℕ, suc, ◌-◌, nat_lt, List, [], ◌∷◌, drop, take, length, if◌then◌else◌, Option, None, Some}
use Rattle.std.specs.List.{position_or_len}
use Rattle.haya_bibtex_names.specs.Parts.{sides, words_text}
use Rattle.haya_bibtex_names.specs.Words.{Text, is_low, words}

-- the texts of a name's parts, in UTF-8; one that is missing is empty
pub record NameTexts : Type 0 where
  pub family : List ℕ
  pub prefix : List ℕ
  pub given : List ℕ
  pub suffix : List ℕ

-- all words but the last
abbrev pub front : List Text → List Text
front ws = take (length ws - 1) ws

-- how many words of a name without commas are the given name: those before the first low one, but
-- for the last word
abbrev pub given_count : List Text → ℕ
given_count ws = position_or_len is_low (front ws)

-- how many words there are up to the last low one
abbrev pub low_end : List Text → ℕ
low_end [] = 0
low_end (w ∷ ws) =
    if nat_lt 0 (low_end ws) then suc (low_end ws) else if is_low w then 1 else 0

-- how many words of a family part are its prefix: those up to the last low one, but for the last
-- word
abbrev pub prefix_count : List Text → ℕ
prefix_count ws = low_end (front ws)

-- the texts of a family part, a suffix and a given name
abbrev pub name_texts : List Text → List Text → List Text → NameTexts
name_texts family suffix given = record {
  family = words_text (drop (prefix_count family) family);
  prefix = words_text (take (prefix_count family) family);
  given = words_text given;
  suffix = words_text suffix;
}

-- a name without commas
abbrev pub by_words : List Text → NameTexts
by_words ws = name_texts (drop (given_count ws) ws) [] (take (given_count ws) ws)

-- a family part, and what is behind its comma: the given name, or a suffix and the given name
abbrev pub by_second : Text → Text → Option (Text × Text) → NameTexts
by_second family rest None = name_texts (words family) [] (words rest)
by_second family rest (Some p) = name_texts (words family) (words p.0) (words p.1)

abbrev pub by_first : Text → Option (Text × Text) → NameTexts
by_first text None = by_words (words text)
by_first text (Some p) = by_second p.0 p.1 (sides 44 p.1)

-- a name by its words and its first two commas
abbrev pub plain_texts : Text → NameTexts
plain_texts text = by_first text (sides 44 text)
