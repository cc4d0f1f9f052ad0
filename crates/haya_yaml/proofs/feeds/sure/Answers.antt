use Rattle.haya_yaml.proofs.Ends.{before_mark}
use Rattle.haya_yaml.proofs.feeds.sure.Goals as goal

pub returns-clause-within : goal.returns-clause-within
returns-clause-within c = (before_mark c.args.bytes.now c.feeds.result c.first_mark.result c.requires c.feeds.ensures c.first_mark.ensures).0

pub returns-clause-more : goal.returns-clause-more
returns-clause-more c = (before_mark c.args.bytes.now c.feeds.result c.first_mark.result c.requires c.feeds.ensures c.first_mark.ensures).1
