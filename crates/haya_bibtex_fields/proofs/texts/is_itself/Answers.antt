use Rattle.std.specs.Str.{chars}
use Rattle.haya_latex.specs.Texts.{text_chars}
use Rattle.haya_latex.specs.declared.kinds.Kind.TheVariants.{Normal}
use Rattle.haya_bibtex_fields.specs.FieldTexts.{plain_kind, title_kind}
use Rattle.haya_bibtex_fields.proofs.Chunks.{one_chunk_in, plain_text_in}
use Rattle.haya_bibtex_fields.proofs.texts.is_itself.Goals as goal

pub returns-clause-title : goal.returns-clause-title
returns-clause-title c = λ h.
    one_chunk_in title_kind Normal c.args.text.now (text_chars (chars c.args.text.now)) (c.says_itself.ensures.bytes h) (c.says_itself.ensures.some h)

pub returns-clause-formatted : goal.returns-clause-formatted
returns-clause-formatted c = λ h.
    one_chunk_in plain_kind Normal c.args.text.now (text_chars (chars c.args.text.now)) (c.says_itself.ensures.bytes h) (c.says_itself.ensures.some h)

pub returns-clause-plain : goal.returns-clause-plain
returns-clause-plain c = λ h.
    plain_text_in Normal c.args.text.now (text_chars (chars c.args.text.now)) (c.says_itself.ensures.bytes h) (c.says_itself.ensures.some h)
