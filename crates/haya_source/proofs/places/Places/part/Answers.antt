use Rattle.std.proofs.Common.{ap, option_map, ◌∙◌}
use Rattle.haya_source.specs.Places.{kept_part}
use Rattle.haya_source.proofs.places.Places.part.Goals as goal

pub returns : goal.returns
unfolding kept_part
returns c = ap (option_map (λ s. s.now)) (c.copied.ensures ∙ c.get.ensures.value)
