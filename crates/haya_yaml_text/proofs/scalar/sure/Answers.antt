use Rattle.haya_yaml_text.proofs.Sure.{before_mark}
use Rattle.haya_yaml_text.proofs.scalar.sure.Goals as goal

pub returns-clause-within : goal.returns-clause-within
returns-clause-within c = (before_mark c.args.bytes.now c.doubtful.result c.first_mark.result c.requires c.doubtful.ensures c.first_mark.ensures).0

pub returns-clause-more : goal.returns-clause-more
returns-clause-more c = (before_mark c.args.bytes.now c.doubtful.result c.first_mark.result c.requires c.doubtful.ensures c.first_mark.ensures).1
