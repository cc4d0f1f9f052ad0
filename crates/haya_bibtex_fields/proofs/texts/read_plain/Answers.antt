use Rattle.std.proofs.Common.{◌≡◌, ap, ◌∙◌, flat_map, string_bytes}
use Rattle.std.specs.Str.{chars}
use Rattle.haya_latex.specs.Texts.{text_chars}
use Rattle.haya_bibtex_fields.specs.FieldTexts.{run_text, unless_empty}
use Rattle.haya_bibtex_fields.proofs.Chunks.{runs_as_plain}
use Rattle.haya_bibtex_fields.proofs.texts.read_plain.Goals as goal

pub returns-clause-value : goal.returns-clause-value
returns-clause-value c =
    let cs = text_chars (chars c.args.text.now) in
    let read : string_bytes c.in_ok-plain.plain ≡ flat_map run_text c.in_ok-read.read.runs.items =
    c.in_ok-plain.ensures in
    c.unless_empty_text.ensures ∙ ap unless_empty (read ∙ runs_as_plain c.in_ok-read.read.runs.items cs c.in_ok-read.ensures.bytes)
