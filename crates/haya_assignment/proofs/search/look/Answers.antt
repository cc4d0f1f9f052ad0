use Rattle.std.proofs.Common.{rules}
use Rattle.haya_assignment.proofs.Reaching.{accepts_read}
use Rattle.haya_assignment.proofs.search.look.Goals as goal

pub returns-clause-seen : goal.returns-clause-seen
returns-clause-seen c =
    accepts_read c.args.table.now c.index-table-member.result c.args.member c.args.position c.index.result.now c.requires.member_in c.index-table-member.is (search rules) c.index.ensures
