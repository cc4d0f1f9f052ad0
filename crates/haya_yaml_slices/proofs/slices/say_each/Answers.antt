use Rattle.std.proofs.Common.{◌≡◌, ◌<◌, List, ℕ, [], length, get_or, true, arith}
use Rattle.std.specs.Borrow.{Bor}
use Rattle.haya_yaml_slices.specs.Members.{SaysMember}
use Rattle.haya_yaml_slices.proofs.Pairs.{related_more}
use Rattle.haya_yaml_slices.proofs.slices.say_each.Goals as goal

pub parts-preserved : goal.parts-preserved
parts-preserved c =
    let empty : Bor (List ℕ) = record { ref_ptr = (0, 0); now = [] } in
    let parts = c.args.parts.now in
    let members = c.args.members.now in
    let at = c.parts.at in
    let also : at < length members = omega (arith, c.parts-test.true, c.if-parts-members.false) in
    let yes : c.in_ok-says_members.field-0 ≡ true = grind (arith, c.if-not-branch.false) in
    let here : SaysMember (get_or parts at empty).now (get_or members at empty).now = c.in_ok-says_members.ensures yes in
    (omega (arith, c.parts-test.true), related_more SaysMember parts members at empty c.parts-test.true also c.parts.invariant.1 here)
