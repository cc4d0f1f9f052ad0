use Rattle.haya_characters.proofs.Characters.{chars-more, take-more}
use Rattle.haya_characters.proofs.texts.push_chars.Goals as goal

pub characters-preserved : goal.characters-preserved
characters-preserved c =
    take-more _ _ _ _ _ _ c.characters-test.true c.c-item.is c.characters.invariant
    (chars-more c.characters.text c.push.new.self _ c.in_ok-push.ensures.bytes)
