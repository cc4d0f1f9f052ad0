use Rattle.haya_numbers.proofs.Runs.{run_from_cut}
use Rattle.haya_numbers.specs.Classes.{has}
use Rattle.haya_numbers.proofs.numeric.reading.eat_run.Goals as goal

pub returns-clause-run : goal.returns-clause-run
returns-clause-run c = (run_from_cut (has c.args.class) _ _ _ c.eat_while.ensures.taken c.eat_while.ensures.accepted c.eat_while.ensures.stops).0

pub returns-clause-rest : goal.returns-clause-rest
returns-clause-rest c = (run_from_cut (has c.args.class) _ _ _ c.eat_while.ensures.taken c.eat_while.ensures.accepted c.eat_while.ensures.stops).1
