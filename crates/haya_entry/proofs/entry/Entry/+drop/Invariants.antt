use Rattle.std.proofs.Common.{◌<◌}
use denote.Param.Weighed.{most}
use Rattle.haya_entry.proofs.entry.Entry.TheLaws.{the_size}
use Rattle.haya_entry.proofs.entry.Entry.+drop.Given as goal

-- what is left is less deep than the whole
abbrev pub invariant-parents : goal.invariant-parents
invariant-parents l = most the_size l.parents.items < the_size l.fn.self
