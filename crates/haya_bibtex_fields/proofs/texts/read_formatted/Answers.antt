use Rattle.std.proofs.Common.{◌≡◌, ap, ◌∙◌}
use Rattle.std.specs.Str.{chars}
use Rattle.haya_latex.specs.Texts.{text_chars}
use Rattle.haya_text.specs.Chunks.{chunks}
use Rattle.haya_bibtex_fields.specs.FieldTexts.{chunks_of_runs, plain_kind, unless_empty}
use Rattle.haya_bibtex_fields.proofs.Chunks.{runs_as_characters}
use Rattle.haya_bibtex_fields.proofs.texts.read_formatted.Goals as goal

pub returns-clause-value : goal.returns-clause-value
returns-clause-value c =
    let cs = text_chars (chars c.args.text.now) in
    let read : chunks c.in_ok-chunks.chunks ≡ chunks_of_runs plain_kind c.in_ok-read.read.runs.items =
    c.in_ok-chunks.ensures in
    c.unless_empty.ensures
    ∙ ap unless_empty (read ∙ runs_as_characters plain_kind c.in_ok-read.read.runs.items cs c.in_ok-read.ensures.bytes c.in_ok-read.ensures.texts)
