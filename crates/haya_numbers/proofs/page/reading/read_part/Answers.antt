use Rattle.haya_numbers.proofs.ReadLemmas.{chars-trim}
use Rattle.haya_numbers.proofs.page.reading.read_part.Goals as goal

pub returns : goal.returns
returns c = rw (chars-trim c.args.text.now c.trim.result.now c.utf8.text c.trim.utf8 c.trim.ensures.trim) at c.read_inner.ensures
