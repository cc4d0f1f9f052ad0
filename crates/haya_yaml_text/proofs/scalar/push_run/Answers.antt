use Rattle.haya_yaml_text.proofs.Cuts.{behind_run}
use Rattle.haya_yaml_text.proofs.scalar.push_run.Goals as goal

pub split_at-requires : goal.split_at-requires
split_at-requires c = rw c.run.ensures (behind_run c.args.style c.args.text.now c.requires)
