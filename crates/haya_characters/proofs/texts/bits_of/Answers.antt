use Rattle.std.proofs.Common.{refl}
use Rattle.haya_characters.proofs.Bits.{ascii_more}
use Rattle.haya_characters.proofs.texts.bits_of.Goals as goal

pub characters-preserved : goal.characters-preserved
characters-preserved c =
    ascii_more c.args.characters.now c.characters.c-index c.c-item.result c.characters.bits _ c.characters-test.true c.c-item.is refl c.characters.invariant
