use Rattle.haya_values.proofs.Equal.{durations_or_texts-tell, ranges_or_texts-tell, numbers_or_texts-tell, pages_or_texts-tell, publishers-tell, urls-tell}
use Rattle.haya_values.proofs.laws.equal_by_value.Goals as goal

pub returns : goal.returns
returns c = record {
  number = numbers_or_texts-tell;
  pages = pages_or_texts-tell;
  duration = durations_or_texts-tell;
  range = ranges_or_texts-tell;
  url = urls-tell;
  publisher = publishers-tell;
}
