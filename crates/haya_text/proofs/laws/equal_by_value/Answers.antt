use Rattle.haya_text.proofs.Equal.{chunk-tells, chunks-tell, foldable_chunk-tells, foldable_chunks-tell, texts-tell}
use Rattle.haya_text.proofs.laws.equal_by_value.Goals as goal

pub returns : goal.returns
returns c = record {
  chunk = chunk-tells;
  chunked = chunks-tell;
  foldable_chunk = foldable_chunk-tells;
  foldable = foldable_chunks-tell;
  format = texts-tell;
}
