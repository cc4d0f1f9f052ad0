use Rattle.std.proofs.Common.{sym, ◌∙◌}
use Rattle.std.proofs.lemmas.List.{take_all}
use Rattle.haya_latex.proofs.SimpleTexts.{reads_itself}
use Rattle.haya_latex.proofs.text.read_simple.Goals as goal

pub returns : goal.returns
returns c =
    rw (take_all c.bytes.byte-index c.args.text.now c.bytes-test.false) at c.bytes.invariant
    ∙ sym (reads_itself c.args.kind c.args.text.now c.requires)
