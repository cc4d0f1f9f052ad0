use Rattle.std.proofs.Common.{inl, inr}
use Rattle.hayagriva_c.specs.Reading.{WhyNoFront, no_memory, refused_front}
use Rattle.hayagriva_c.proofs.reading.front_of.Goals as goal

pub returns-in-Err-clause-told : goal.returns-in-Err-clause-told
returns-in-Err-clause-told c = elim c.why_none.ensures as (λ w. WhyNoFront c.args.text.now c.why_none.result) [
  | inl at ↦ refused_front c.in-Err.error c.in-Err.ensures.grammar at
  | inr memory ↦ no_memory memory
]
