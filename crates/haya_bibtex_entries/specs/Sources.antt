-- The table of notes, genres, call numbers and languages.
use Rattle.std.specs.Prelude.{ℕ, ◌++◌, ◌||◌, List, [], ◌∷◌, Option, None, Some, is_some, option_and_then, option_map, codes, if◌then◌else◌}
use Rattle.std.specs.Option.{option_or}
use Rattle.std.specs.Str.{bytes_eq}
use Rattle.haya_text.specs.Texts.{without_short}
use Rattle.haya_bibtex_fields.specs.FieldTexts.{unknown_in, unknown_of}
use Rattle.haya_bibtex_fields.specs.Genres.{genre_in}
use Rattle.haya_bibtex_fields.specs.Languages.{language_in, variant_in}
use Rattle.haya_bibtex_fields.specs.Titles.{note_in}
use Rattle.haya_bibtex_inherited.specs.Entries.{FieldBytes, text_of}
use Rattle.haya_bibtex_entries.specs.Drafts.{RowView}
use Rattle.haya_bibtex_entries.specs.Rows.{commands, row, text_row}
use Rattle.haya_bibtex_entries.specs.Values.{language_value, text_value}
use Rattle.haya_bibtex_entries.specs.declared.draft.Level.TheVariants as level
use Rattle.haya_bibtex_entries.specs.declared.values.TextField.TheVariants as texts

-- ---- notes: a note with its addendum, or without both an annotation

abbrev pub annotation_text : List FieldBytes → Option (List ℕ)
annotation_text fs = option_or (text_of fs (codes "annotation")) (text_of fs (codes "annote"))

abbrev pub joined_note_row : Option (List ℕ) → Option (List ℕ) → RowView
joined_note_row note addendum =
    row level.Own (option_map (λ cs. text_value texts.Note (without_short cs)) (note_in note addendum))
    (commands (unknown_of note ++ unknown_of addendum))

abbrev pub note_row_by : Option (List ℕ) → Option (List ℕ) → Option (List ℕ) → Option RowView
note_row_by None None annotation = option_map (text_row level.Own texts.Note) annotation
note_row_by (Some note) addendum annotation = Some (joined_note_row (Some note) addendum)
note_row_by None (Some addendum) annotation = Some (joined_note_row None (Some addendum))

abbrev pub note_row : List FieldBytes → Option RowView
note_row fs =
    note_row_by (text_of fs (codes "note")) (text_of fs (codes "addendum")) (annotation_text fs)

-- ---- genres: that of `type`, or of a type of entries that is one

abbrev pub implied_genre : List ℕ → Option (List ℕ)
implied_genre kind =
    if bytes_eq kind (codes "phdthesis") || bytes_eq kind (codes "mastersthesis") then Some kind
    else None

abbrev pub genre_text : List ℕ → List FieldBytes → Option (List ℕ)
genre_text kind fs = option_or (text_of fs (codes "type")) (implied_genre kind)

abbrev pub genre_row : List ℕ → RowView
genre_row text =
    row level.Own (option_map (λ cs. text_value texts.Genre (without_short cs)) (genre_in text))
    (commands (unknown_in text))

-- ---- languages: the variant of one goes before

abbrev pub language_text : List FieldBytes → Option (List ℕ)
language_text fs =
    option_or (text_of fs (codes "langid"))
    (option_or (text_of fs (codes "hyphenation")) (text_of fs (codes "language")))

-- options that name no variant are passed over
abbrev pub options_passed : Option (List ℕ) → List (List ℕ)
options_passed None = []
options_passed (Some text) = if is_some (variant_in text) then [] else codes "langidopts" ∷ []

abbrev pub language_by : Option (List ℕ) → Option (List ℕ) → RowView
language_by text options =
    row level.Own
    (option_map (λ t. language_value t)
    (option_or (option_and_then variant_in options) (option_and_then language_in text)))
    (commands (unknown_of text ++ unknown_of options) ++ options_passed options)

abbrev pub language_row : List FieldBytes → RowView
language_row fs = language_by (language_text fs) (text_of fs (codes "langidopts"))

-- by the type of the entry
abbrev pub source_rows : List ℕ → List FieldBytes → List (Option RowView)
source_rows kind fs =
    note_row fs
    ∷ option_map (text_row level.Own texts.Abstract) (text_of fs (codes "abstract"))
    ∷ option_map genre_row (genre_text kind fs)
    ∷ option_map (text_row level.Own texts.CallNumber) (text_of fs (codes "library"))
    ∷ Some (language_row fs)
    ∷ []
