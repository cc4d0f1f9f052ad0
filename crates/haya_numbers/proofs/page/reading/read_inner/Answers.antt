use Rattle.std.proofs.Common.{refl, lit<}
use Rattle.std.specs.Str.{chars}
use Rattle.haya_numbers.proofs.ReadLemmas.{chars-ampersand, chars-comma, chars-empty, chars-not_empty, chars-not_one, inner-cut}
use Rattle.haya_numbers.proofs.page.reading.read_inner.Goals as goal

pub returns-in-empty : goal.returns-in-empty
returns-in-empty c = rw (c.in-empty.is, chars-empty) refl

pub returns-in-text : goal.returns-in-text
returns-in-text c = rw (c.in-text.is, chars-ampersand) refl

pub returns-in-text-2 : goal.returns-in-text-2
returns-in-text-2 c = rw (c.in-text-2.is, chars-comma) refl

pub returns-in_default : goal.returns-in_default
returns-in_default c =
    rw (inner-cut (chars c.args.text.now) (chars-not_empty c.args.text.now c.utf8.text c.in_default.not-empty) (chars-not_one c.args.text.now 38 c.utf8.text (lit< tt) c.in_default.not-text) (chars-not_one c.args.text.now 44 c.utf8.text (lit< tt) c.in_default.not-text-2))
    c.read_cut.ensures
