use Rattle.haya_run.proofs.OneOutput.{Shows-same}
use Rattle.haya_run.proofs.laws.one_output.Goals as goal

pub returns-clause-run : goal.returns-clause-run
returns-clause-run c = λ word unread left before after run. record {
  library = run.library;
  selector = run.selector;
  describes = run.describes;
  reads = run.reads;
  shows = run.shows;
}

pub returns-clause-one : goal.returns-clause-one
returns-clause-one c = Shows-same
