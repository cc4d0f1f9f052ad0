use Rattle.std.proofs.Common.{ap, ◌∙◌}
use Rattle.std.specs.Prelude.{unwrap_or}
use Rattle.haya_json.proofs.Tallies.{lookup-by_bytes}
use Rattle.haya_json.proofs.ignored.Ignored.count.Goals as goal

pub returns : goal.returns
returns c =
    c.unwrap_or.ensures
    ∙ ap (λ o. unwrap_or o 0) (c.copied.ensures ∙ c.get.ensures.value ∙ lookup-by_bytes c.args.name.now c.args.self.now.counts.entries)
