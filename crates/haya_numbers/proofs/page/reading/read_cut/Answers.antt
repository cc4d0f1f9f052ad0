use Rattle.std.specs.Str.{chars}
use Rattle.haya_numbers.proofs.ReadLemmas.{cut-escaped}
use Rattle.haya_numbers.proofs.page.reading.read_cut.Goals as goal

pub returns-in-Some : goal.returns-in-Some
returns-in-Some c = rw (cut-escaped (chars c.args.text.now) (chars c.in-Some.start.now) (chars c.in-Some.behind.now) c.in-Some.ensures) c.read_escaped.ensures
