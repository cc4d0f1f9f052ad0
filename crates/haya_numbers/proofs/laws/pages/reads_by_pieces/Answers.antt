use Rattle.std.proofs.Common.{ap, ◌∙◌, map}
use Rattle.haya_numbers.specs.PagesReading.{collect, part_read}
use Rattle.haya_numbers.specs.Pieces.{pieces}
use Rattle.haya_numbers.proofs.ReadLaws.{all-collected, collect-all, fault-first, first-fault}
use Rattle.haya_numbers.proofs.laws.pages.reads_by_pieces.Goals as goal

pub returns : goal.returns
returns c = record {
  read = λ text ps. (all-collected (map part_read (pieces text)) ps, λ h. ap collect h ∙ collect-all ps);
  fault = λ text e. (fault-first (map part_read (pieces text)) e, first-fault (map part_read (pieces text)) e);
}
