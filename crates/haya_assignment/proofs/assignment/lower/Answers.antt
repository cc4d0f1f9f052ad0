use Rattle.std.proofs.Common.{◌+◌, ◌*◌, ◌≤◌, ◌∙◌, length, arith, rules}
use Rattle.haya_assignment.specs.Assignment.{rows}
use Rattle.haya_assignment.specs.Placed.{accepts}
use Rattle.haya_assignment.proofs.Lowering.{least_more}
use Rattle.haya_assignment.proofs.assignment.lower.Goals as goal

pub members-preserved : goal.members-preserved
members-preserved c =
    let was = c.members.invariant in
    let ok = c.in_ok-place_least.ensures in
    record {
      one_each = c.place_least.ensures.as_long ∙ was.one_each;
      placed = ok.placed;
      least = least_more (accepts (rows c.args.table.now)) c.members.member c.members.positions _ c.place_least.ensures.as_long was.least ok.fixed ok.least;
      ranked = ok.ranked;
      onward = search rules;
      most = let more : c.place_least.new.steps ≤ c.members.steps + length c.args.table.now * c.args.parents = c.place_least.ensures.at_most in let before = was.most in omega arith;
    }
