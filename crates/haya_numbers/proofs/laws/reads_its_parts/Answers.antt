use Rattle.std.specs.Str.{chars}
use Rattle.haya_numbers.proofs.Grammars.{fault-is, is-read, reads-is}
use Rattle.haya_numbers.proofs.laws.reads_its_parts.Goals as goal

pub returns : goal.returns
returns c = record {
  value = λ text v. (reads-is text v, (is-read (chars text)).ok v);
  fault = λ text e. (fault-is, (is-read (chars text)).err e);
}
