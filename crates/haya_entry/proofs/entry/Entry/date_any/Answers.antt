use Rattle.std.proofs.Common.{rules, tests}
use Rattle.haya_entry.specs.Tree.{fields}
use Rattle.haya_entry.proofs.FirstValues.{asks-first}
use Rattle.haya_entry.proofs.entry.Entry.date_any.Goals as goal

pub returns : goal.returns
returns c = asks-first (λ t. (fields t).date) (λ d. d.now) (λ s u e answer call. search (rules, tests)) c.map.ensures.2
