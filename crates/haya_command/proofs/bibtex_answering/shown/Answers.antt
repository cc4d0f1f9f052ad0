use Rattle.haya_command.proofs.bibtex_answering.shown.Goals as goal

pub returns : goal.returns
returns c = rw (c.if-options.false, c.if-options-2.false) c.bibtex_text.ensures
