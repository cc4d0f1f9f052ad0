use Rattle.std.proofs.Common.{◌≡◌, ◌≤◌, ap, length, arith}
use Rattle.std.proofs.lemmas.List.{length-map}
use Rattle.haya_assignment.specs.Assignment.{rows}
use Rattle.haya_assignment.proofs.Bridging.{stuck_least, stuck_short}
use Rattle.haya_assignment.proofs.assignment.complete.Goals as goal

pub returns-in-Some-clause-answer : goal.returns-in-Some-clause-answer
returns-in-Some-clause-answer c =
    let table = c.args.table.now in
    let stuck = rw c.in-Some.is at c.in_ok-reached.ensures.stuck in
    let ps = c.deref_mut.result.now in
    let long : length ps ≡ length c.push.new.self.items = ap length c.deref_mut.ensures.value in
    let fits : length ps ≤ length (rows table) = omega (arith, c.in_ok-push.ensures.len, length-map table (λ row. row.items)) in (
      stuck_least (rows table) c.members.member ps c.in-Some.reached.items fits stuck,
      rw (c.in_ok-set_places.ensures, c.deref.ensures.value) (stuck_short (rows table) c.args.parents c.members.member ps c.in-Some.reached.items fits stuck),
    )
