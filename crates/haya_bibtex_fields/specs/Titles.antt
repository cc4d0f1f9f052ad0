-- Titles: a title, its subtitle and an addition as one text, with a short form.
use Rattle.std.specs.Prelude.{ℕ, ◌==◌, Bool, false, List, [], ◌∷◌, ◌++◌, codes, Option, None, Some, option_and_then, option_map, if◌then◌else◌}
use Rattle.std.specs.List.{ends_with, list_any}
use Rattle.std.specs.Option.{option_or}
use Rattle.haya_text.specs.Chunks.{Chunk, push_str}
use Rattle.haya_text.specs.Texts.{TextView}
use Rattle.haya_text.specs.declared.strings.kind.ChunkKind.TheVariants.{Normal, Verbatim, Math}
use Rattle.haya_bibtex_fields.specs.FieldTexts.{followed_by, formatted_in, title_in, unknown_of}
use Rattle.haya_bibtex_fields.specs.declared.titles.TitleTexts.{TitleTexts}

-- the marks behind which no other is written
abbrev pub marks : List (List ℕ)
marks =
    codes "." ∷ codes "," ∷ codes ":" ∷ codes ";" ∷ codes "!" ∷ codes "?"
    ∷ (226 ∷ 128 ∷ 166 ∷ []) ∷ []

abbrev pub text_ends_in_mark : List ℕ → Bool
text_ends_in_mark text = list_any (λ m. ends_with (λ a b. a == b) text m) marks

-- whether a text ends in a mark; the signs of a formula are none
abbrev pub chunk_ends_in_mark : Chunk → Bool
chunk_ends_in_mark (text, Normal) = text_ends_in_mark text
chunk_ends_in_mark (text, Verbatim) = text_ends_in_mark text
chunk_ends_in_mark (text, Math) = false

abbrev pub ends_in_mark : List Chunk → Bool
ends_in_mark [] = false
ends_in_mark (c ∷ []) = chunk_ends_in_mark c
ends_in_mark (c ∷ d ∷ ds) = ends_in_mark (d ∷ ds)

-- what is between a text and the next one: a sign, or a blank alone behind a mark
abbrev pub between : List ℕ → List Chunk → List ℕ
between sign cs = if ends_in_mark cs then codes " " else sign

-- a text, and another behind it, if there is one
abbrev pub continued : List ℕ → List Chunk → Option (List Chunk) → List Chunk
continued sign cs None = cs
continued sign cs (Some ds) = followed_by (push_str cs (between sign cs) Normal) ds

-- A title, its subtitle behind a colon, and the addition behind a full stop. Without a title the
-- subtitle alone is it, or otherwise the addition.
abbrev pub joined : Option (List Chunk) → Option (List Chunk) → Option (List Chunk)
    → Option (List Chunk)
joined None subtitle addition = option_or subtitle addition
joined (Some title) subtitle addition =
    Some (continued (codes ". ") (continued (codes ": ") title subtitle) addition)

-- a text with its short form, which is the text where there is no other
abbrev pub with_short : Option (List Chunk) → Option (List Chunk) → Option TextView
with_short None None = None
with_short None (Some short) = Some (record { value = short; short = None })
with_short (Some value) short = Some (record { value = value; short = short })

-- the texts that make a title, each if it is there
pub record TitleBytes : Type 0 where
  pub title : Option (List ℕ)
  pub subtitle : Option (List ℕ)
  pub addition : Option (List ℕ)

abbrev pub title_bytes : TitleTexts → TitleBytes
title_bytes t = record {
  title = option_map (λ x. x.now) t.title;
  subtitle = option_map (λ x. x.now) t.subtitle;
  addition = option_map (λ x. x.now) t.addition;
}

-- the texts of a title, joined
abbrev pub joined_in : TitleBytes → Option (List Chunk)
joined_in t =
    joined (option_and_then title_in t.title) (option_and_then title_in t.subtitle)
    (option_and_then title_in t.addition)

abbrev pub joined_unknown : TitleBytes → List (List ℕ)
joined_unknown t = unknown_of t.title ++ unknown_of t.subtitle ++ unknown_of t.addition

-- its texts joined, with the short form that is written
abbrev pub short_title : TitleBytes → Option (List ℕ) → Option TextView
short_title t short = with_short (joined_in t) (option_and_then title_in short)

abbrev pub short_title_unknown : TitleBytes → Option (List ℕ) → List (List ℕ)
short_title_unknown t short = joined_unknown t ++ unknown_of short

-- a title that has a subtitle is its own short form
abbrev pub own_short : Option (List Chunk) → Option (List Chunk) → Option (List Chunk)
own_short title None = None
own_short title (Some subtitle) = title

-- the short form of a title: the one that is written, or its own
abbrev pub short_of : TitleBytes → Option (List ℕ) → Option (List Chunk)
short_of t short =
    option_or (option_and_then title_in short)
    (own_short (option_and_then title_in t.title) (option_and_then title_in t.subtitle))

-- the title of an entry: its texts joined, with its short form
abbrev pub whole_title : TitleBytes → Option (List ℕ) → Option TextView
whole_title t short = with_short (joined_in t) (short_of t short)

-- a note and its addendum, as a title and its addition
abbrev pub note_in : Option (List ℕ) → Option (List ℕ) → Option (List Chunk)
note_in note addendum =
    joined (option_and_then formatted_in note) None (option_and_then formatted_in addendum)
