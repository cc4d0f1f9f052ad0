use Rattle.haya_text.proofs.Equal.{out_of_memory-tells, parse_errors-tell, read_errors-tell, fold_errors-tell}
use Rattle.haya_text.proofs.laws.errors_equal_by_value.Goals as goal

pub returns : goal.returns
returns c = record {
  memory = out_of_memory-tells;
  parse = parse_errors-tell;
  read = read_errors-tell;
  fold = fold_errors-tell;
}
