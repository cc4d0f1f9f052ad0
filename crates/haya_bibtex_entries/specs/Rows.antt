-- Rows of the tables of fields: what a text says, and to which entry it goes.
use Rattle.std.specs.Prelude.{ℕ, Bool, List, ◌∷◌, map, Option, None, Some, option_map, if◌then◌else◌}
use Rattle.haya_text.specs.Texts.{without_short}
use Rattle.haya_bibtex_fields.specs.FieldTexts.{formatted_in, unknown_in}
use Rattle.haya_bibtex_entries.specs.Drafts.{RowView}
use Rattle.haya_bibtex_entries.specs.Values.{FieldValue, text_value}
use Rattle.haya_bibtex_entries.specs.declared.draft.Level.{Level}
use Rattle.haya_bibtex_entries.specs.declared.draft.Level.TheVariants as level
use Rattle.haya_bibtex_entries.specs.declared.kinds.Kind.{Kind}
use Rattle.haya_bibtex_entries.specs.declared.kinds.Host.{Host}
use Rattle.haya_bibtex_entries.specs.declared.kinds.Takes.{Takes}
use Rattle.haya_bibtex_entries.specs.declared.values.TextField.{TextField}

-- a command that isn't known is counted with its backslash
abbrev pub commands : List (List ℕ) → List (List ℕ)
commands names = map (λ n. 92 ∷ n) names

abbrev pub row : Level → Option FieldValue → List (List ℕ) → RowView
row l v names = record { level = l; value = v; passed_over = names }

-- to the host where it takes this, otherwise to the entry
abbrev pub level_by : (Takes → Bool) → Option Host → Level
level_by taken None = level.Own
level_by taken (Some h) = if taken h.takes then level.Host h.entry else level.Own

abbrev pub host_level : (Takes → Bool) → Kind → Level
host_level taken k = level_by taken k.host

-- a text without a short form
abbrev pub text_row : Level → TextField → List ℕ → RowView
text_row l field text =
    row l (option_map (λ cs. text_value field (without_short cs)) (formatted_in text))
    (commands (unknown_in text))
