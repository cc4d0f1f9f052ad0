use Rattle.haya_command.proofs.source_answering.shown.Goals as goal

pub returns : goal.returns
returns c es are = rw (c.if-options.false, c.if-options-2.false) (c.source_text.ensures es are)
