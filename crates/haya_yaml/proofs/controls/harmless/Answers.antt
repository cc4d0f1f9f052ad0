use Rattle.haya_yaml.proofs.Quiet.{before_mark}
use Rattle.haya_yaml.proofs.controls.harmless.Goals as goal

pub returns-clause-within : goal.returns-clause-within
returns-clause-within c = (before_mark c.args.bytes.now c.doubtful.result c.first_mark.result c.requires c.doubtful.ensures c.first_mark.ensures).0

pub returns-clause-same : goal.returns-clause-same
returns-clause-same c = (before_mark c.args.bytes.now c.doubtful.result c.first_mark.result c.requires c.doubtful.ensures c.first_mark.ensures).1
