-- The table of numbers and pages.
use Rattle.std.specs.Prelude.{ℕ, ◌++◌, List, [], ◌∷◌, Option, None, Some, option_map, codes}
use Rattle.std.specs.Option.{option_or}
use Rattle.haya_numbers.specs.Numeric.{NumericView}
use Rattle.haya_values.specs.MaybeTyped.{TypedOrText, Typed, Text}
use Rattle.haya_bibtex_fields.specs.FieldTexts.{unknown_in}
use Rattle.haya_bibtex_fields.specs.Numbers.{number_in, pages_in}
use Rattle.haya_bibtex_inherited.specs.Entries.{FieldBytes, text_of}
use Rattle.haya_bibtex_entries.specs.Drafts.{RowView}
use Rattle.haya_bibtex_entries.specs.Kinds.{takes_edition, takes_issue, takes_volume}
use Rattle.haya_bibtex_entries.specs.Rows.{commands, host_level, row}
use Rattle.haya_bibtex_entries.specs.Values.{count_value, number_value, pages_value}
use Rattle.haya_bibtex_entries.specs.declared.draft.Level.{Level}
use Rattle.haya_bibtex_entries.specs.declared.draft.Level.TheVariants as level
use Rattle.haya_bibtex_entries.specs.declared.kinds.Kind.{Kind}
use Rattle.haya_bibtex_entries.specs.declared.kinds.NumberRule.{NumberRule}
use Rattle.haya_bibtex_entries.specs.declared.kinds.NumberRule.TheVariants.{Issue, Serial, Series}
use Rattle.haya_bibtex_entries.specs.declared.values.CountField.{CountField}
use Rattle.haya_bibtex_entries.specs.declared.values.CountField.TheVariants as counts
use Rattle.haya_bibtex_entries.specs.declared.values.NumberField.{NumberField}
use Rattle.haya_bibtex_entries.specs.declared.values.NumberField.TheVariants as numbers

-- ---- what `number` is

abbrev pub number_text : List FieldBytes → Option (List ℕ)
number_text fs = text_of fs (codes "number")

abbrev pub issue_text : NumberRule → List FieldBytes → Option (List ℕ)
issue_text Issue fs = option_or (number_text fs) (text_of fs (codes "issue"))
issue_text Series fs = text_of fs (codes "issue")
issue_text Serial fs = text_of fs (codes "issue")

abbrev pub series_text : NumberRule → List FieldBytes → Option (List ℕ)
series_text Issue fs = None
series_text Series fs = number_text fs
series_text Serial fs = None

abbrev pub edition_text : List FieldBytes → Option (List ℕ)
edition_text fs = option_or (text_of fs (codes "edition")) (text_of fs (codes "version"))

-- ---- rows

abbrev pub number_row : Level → NumberField → List ℕ → RowView
number_row l field text =
    row l (option_map (λ n. number_value field n) (number_in text)) (commands (unknown_in text))

-- a text that isn't a number counts nothing, and its field is passed over
abbrev pub count_by : CountField → List ℕ → List (List ℕ) → Option (TypedOrText NumericView) → RowView
count_by field name names None = row level.Own None names
count_by field name names (Some (Typed n)) = row level.Own (Some (count_value field n)) names
count_by field name names (Some (Text t)) = row level.Own None (names ++ name ∷ [])

abbrev pub count_row : CountField → List ℕ → List ℕ → RowView
count_row field name text = count_by field name (commands (unknown_in text)) (number_in text)

abbrev pub pages_row : List ℕ → RowView
pages_row text =
    row level.Own (option_map (λ ps. pages_value ps) (pages_in text)) (commands (unknown_in text))

abbrev pub number_rows : Kind → List FieldBytes → List (Option RowView)
number_rows k fs =
    option_map (number_row (host_level takes_volume k) numbers.Volume) (text_of fs (codes "volume"))
    ∷ option_map (number_row (host_level takes_edition k) numbers.Edition) (edition_text fs)
    ∷ option_map (number_row (host_level takes_issue k) numbers.Issue) (issue_text k.number fs)
    ∷ option_map (number_row level.Series numbers.Volume) (series_text k.number fs)
    ∷ []

abbrev pub own_number_rows : List FieldBytes → List (Option RowView)
own_number_rows fs =
    option_map (number_row level.Own numbers.Chapter) (text_of fs (codes "chapter"))
    ∷ option_map pages_row (text_of fs (codes "pages"))
    ∷ option_map (count_row counts.Volumes (codes "volumes")) (text_of fs (codes "volumes"))
    ∷ option_map (count_row counts.Pages (codes "pagetotal")) (text_of fs (codes "pagetotal"))
    ∷ []
