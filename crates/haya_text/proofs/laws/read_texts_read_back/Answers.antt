use Rattle.haya_text.proofs.Canonical.{chunk-back, read-back}
use Rattle.haya_text.proofs.laws.read_texts_read_back.Goals as goal

pub returns : goal.returns
returns c = record { read = read-back; chunk = chunk-back }
