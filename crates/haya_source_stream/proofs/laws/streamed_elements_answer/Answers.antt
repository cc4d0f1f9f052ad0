use Rattle.haya_source_stream.proofs.Hits.{answered}
use Rattle.haya_source_stream.proofs.laws.streamed_elements_answer.Goals as goal

pub returns : goal.returns
returns c = λ questions kind s es found distinct ordered are within.
    answered questions kind s es found (c.all_elements_are_found.ensures es distinct) ordered are within
