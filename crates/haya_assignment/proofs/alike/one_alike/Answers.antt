use Rattle.std.proofs.Common.{◌<◌, get_or, arith}
use Rattle.haya_assignment.proofs.SameRows.{same_rows}
use Rattle.haya_assignment.proofs.alike.one_alike.Goals as goal

pub returns-then-eq-clause-same : goal.returns-then-eq-clause-same
returns-then-eq-clause-same c =
    let known : get_or c.args.others.now c.others.other-index 0 < c.args.member = c.requires.known c.others.other-index 0 (omega arith) in
    same_rows c.args.table.now _ _ c.index-table-other.result c.index-table-member.result c.eq.result c.index-table-other.is c.index-table-member.is (omega arith) c.requires.member_in c.if-eq.true c.eq.ensures
