use Rattle.haya_text.proofs.Grammars.{reads-as, as-reads, none-refused, refused-reads, one-place}
use Rattle.haya_text.proofs.laws.reads_the_grammar.Goals as goal

pub returns : goal.returns
returns c = record {
  read = λ text cs. (reads-as text cs, as-reads text cs);
  refused = λ text. (none-refused text, λ r. refused-reads text r.0 r.1);
  one_place = one-place;
}
