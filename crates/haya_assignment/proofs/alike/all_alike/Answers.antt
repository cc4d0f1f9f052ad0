use Rattle.std.proofs.Common.{◌≡◌, ◌+◌, ◌<◌, ◌≤◌, get_or, length, arith}
use Rattle.haya_assignment.specs.Assignment.{rows}
use Rattle.haya_assignment.specs.Placed.{accepts}
use Rattle.haya_assignment.proofs.Numbers.{at_more}
use Rattle.haya_assignment.proofs.alike.all_alike.Goals as goal
use Rattle.haya_assignment.proofs.alike.all_alike.Goals.{then-first-member+in_ok-push, else-first-member}

pub members-preserved : goal.members-preserved
members-preserved c =
    let A = accepts (rows c.args.table.now) in
    let was = c.members.invariant in
    let here = c.members.member in
    let old = c.members.alike.items in
    let first = c.one_alike-first.result in
    let as_many : length old ≡ here = was.as_many in
    let low : first ≤ here = c.one_alike-first.ensures.known in
    record {
      as_many = omega (arith, c.in_ok-push-2.ensures.len);
      alike = rw c.in_ok-push-2.ensures.items (record {
        known = λ u h. at_more (λ k x. x ≤ k) old first 0 (λ k h. was.alike.known k h) (omega arith) u h;
        same = λ u j h. at_more (λ k x. A x j ≡ A k j) old first 0 (λ k h. was.alike.same k j h) (rw as_many (c.one_alike-first.ensures.same j)) u h;
      });
      firsts = elim c.if-first-member.branch [
        | then-first-member+in_ok-push w ↦ rw (w.firsts-is, w.in_ok-push.ensures.items) (λ k d h.
            at_more (λ _ x. x < here + 1) c.members.firsts.items here d (λ k h. let l : get_or c.members.firsts.items k d < here = was.firsts k d h in omega arith) (omega arith) k h)
        | else-first-member w ↦ rw w.firsts-is (λ k d h. let l : get_or c.members.firsts.items k d < here = was.firsts k d h in omega arith)
      ];
    }
