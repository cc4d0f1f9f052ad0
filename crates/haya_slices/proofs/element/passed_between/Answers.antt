use Rattle.std.proofs.Common.{◌∙◌, sym, ap}
use Rattle.std.proofs.lemmas.Bool.{ne_eqb}
use Rattle.haya_slices.specs.Layout.{within}
use Rattle.haya_slices.proofs.Scanned.{between_word}
use Rattle.haya_slices.proofs.element.passed_between.Goals as goal

pub returns : goal.returns
returns c = λ b.
    c.passed_word.ensures b
    ∙ sym (ap (λ s. within s.0)
    (between_word b c.args.depth c.args.byte (ne_eqb c.args.byte 34 c.if-byte-eq34.false)))
