use Rattle.haya_run.proofs.Lines.{Printed}
use Rattle.haya_run.proofs.printing.print_hits.Given as goal

-- the lines of the hits so far are printed
abbrev pub invariant-hits : goal.invariant-hits
invariant-hits g l = Printed l.fn.hits l.hit-iterator (g.W.Write.contents l.fn.out) (g.W.Write.contents l.out)
