use Rattle.haya_printing.proofs.EntryLines.{entry_text-whole}
use Rattle.haya_printing.proofs.Joined.{joined}
use Rattle.haya_printing.proofs.laws.lines_join.Goals as goal

pub returns-clause-whole : goal.returns-clause-whole
returns-clause-whole c = entry_text-whole

pub returns-clause-join : goal.returns-clause-join
returns-clause-join c = joined
