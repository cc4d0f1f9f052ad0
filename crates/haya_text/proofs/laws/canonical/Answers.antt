use Rattle.std.proofs.Common.{ap}
use Rattle.haya_text.specs.Chunks.{chunks}
use Rattle.haya_text.specs.Printing.{to_serialized}
use Rattle.haya_text.proofs.Canonical.{read-norm, alike-to_serialized}
use Rattle.haya_text.proofs.Equal.{chunks-tell}
use Rattle.haya_text.proofs.Pushes.{AllUtf8-chunks}
use Rattle.haya_text.proofs.Serials.{reads-to_serialized}
use Rattle.haya_text.proofs.laws.canonical.Goals as goal

pub returns : goal.returns
returns c = record {
  back = λ text. reads-to_serialized (chunks text) (AllUtf8-chunks text.0.items);
  normal = read-norm;
  alike = λ s t cs ds u v g h. (ap to_serialized, alike-to_serialized s t cs ds u v g h);
  equal = λ a b h. ap to_serialized ((chunks-tell a b).0 h);
}
