-- What was passed over of a text, by name and number.
use Rattle.std.specs.Prelude.{◌≡◌, ℕ, List, IsSomeAnd}
use Rattle.haya_bibtex.specs.Libraries.{TellsAsBibtex}
use Rattle.haya_csl.specs.Told.{TellsAsCsl}
use Rattle.haya_csl.specs.declared.item_key.ItemKey.TheVariants.{CitationKey}
use Rattle.haya_json.specs.JsonLines as json_lines
use Rattle.haya_json.specs.Notes.{NotesView, none_kept}
use Rattle.haya_json.specs.Tally.{Counts}
use Rattle.haya_json.specs.Told as json
use Rattle.haya_yaml_library.specs.Libraries.{TellsAsYaml}
use Rattle.hayagriva_c.specs.Reading.{asked_format}
use Rattle.hayagriva_c.specs.declared.reading.Format.{Format}
use Rattle.hayagriva_c.specs.declared.reading.Format.TheVariants.{Lines, Json, Csl, JsonLines, Yaml, Bibtex}

-- This is kept of what is told of a text in the format. Of lines nothing is.
abbrev pub TellsIn : Format → List ℕ → NotesView → Type 0
TellsIn Lines text kept = kept ≡ none_kept
TellsIn Json text kept = json.Tells text kept
TellsIn Csl text kept = TellsAsCsl CitationKey text kept
TellsIn JsonLines text kept = json_lines.Tells text kept
TellsIn Yaml text kept = TellsAsYaml text kept
TellsIn Bibtex text kept = TellsAsBibtex text kept

-- the names that are counted of what is told
abbrev pub AreCounted : (NotesView → Type 0) → Counts → Type 0
AreCounted Tells counts = (kept : NotesView) × Tells kept × (counts ≡ kept.counts)

-- those that are counted of bytes in the format with a number
abbrev pub NotesOf : ℕ → List ℕ → Counts → Type 0
NotesOf number bytes counts =
    IsSomeAnd (asked_format number bytes) (λ format. AreCounted (TellsIn format bytes) counts)
