use Rattle.std.proofs.Common.{ap, sym, ◌∙◌, map}
use Rattle.std.proofs.lemmas.List.{take_all}
use Rattle.hayagriva.specs.Library.{key_of}
use Rattle.hayagriva.specs.Query.{hit_entry}
use Rattle.haya_source.specs.Places.{kept_part}
use Rattle.haya_command.proofs.Sourced.{parts-found}
use Rattle.haya_command.proofs.source_answering.kept_parts.Goals as goal

pub returns : goal.returns
returns c es are =
    parts-found (λ s. s.now) es c.args.places.now are c.args.hits.now c.hits.parts.items
    (ap (λ hs. map (λ hit. kept_part c.args.places.now (key_of (hit_entry hit))) hs) (sym (take_all c.hits.hit-index c.args.hits.now c.hits-test.false)) ∙ c.hits.invariant)
