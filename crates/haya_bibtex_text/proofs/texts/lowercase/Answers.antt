use Rattle.std.proofs.Common.{[]}
use Rattle.std.proofs.lemmas.Str.{chars-nil}
use Rattle.haya_characters.proofs.Characters.{chars-more, map-take-more}
use Rattle.haya_bibtex_text.proofs.texts.lowercase.Goals as goal

pub characters-init : goal.characters-init
characters-init c = rw (c.in_ok-text.ensures.bytes, chars-nil)

pub characters-preserved : goal.characters-preserved
characters-preserved c =
    map-take-more _ [] _ _ _ _ _ _ c.characters-test.true c.c-item.is c.to_ascii_lowercase.ensures.value c.characters.invariant
    (chars-more c.characters.text c.push.new.self _ c.in_ok-push.ensures.bytes)
