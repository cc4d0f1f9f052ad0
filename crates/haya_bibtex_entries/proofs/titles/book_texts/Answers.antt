use Rattle.std.proofs.Common.{refl}
use Rattle.haya_bibtex_entries.proofs.titles.book_texts.Goals as goal

-- each text is that of its field
pub returns : goal.returns
returns c = rw (c.text_of-title.ensures, c.text_of-subtitle.ensures, c.text_of-addition.ensures) refl
