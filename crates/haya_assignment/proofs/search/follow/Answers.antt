use Rattle.std.proofs.Common.{◌+◌, ◌*◌, ◌<◌, ◌≤◌, length, arith, rules}
use Rattle.std.proofs.Math.Nat.{mul-le-mul_left}
use Rattle.haya_assignment.specs.Search.{acceptance}
use Rattle.haya_assignment.proofs.Numbers.{grows_trans}
use Rattle.haya_assignment.proofs.Reaching.{searched_more, reached_few}
use Rattle.haya_assignment.proofs.search.follow.Goals as goal

pub returns-in_err-position-clause-at_most : goal.returns-in_err-position-clause-at_most
returns-in_err-position-clause-at_most c =
    let p = c.args.by.now.parents in
    let few : length c.members.reached.members.items ≤ length c.members.reached.seen.items = reached_few _ _ _ _ _ _ c.members.invariant.reaches in
    let one : p * (c.members.at + 1) ≤ p * length c.args.by.now.table.now = mul-le-mul_left p (omega arith) in
    omega arith

pub returns-in-Some-clause-at_most : goal.returns-in-Some-clause-at_most
returns-in-Some-clause-at_most c =
    let p = c.args.by.now.parents in
    let few : length c.members.reached.members.items ≤ length c.members.reached.seen.items = reached_few _ _ _ _ _ _ c.members.invariant.reaches in
    let one : p * (c.members.at + 1) ≤ p * length c.args.by.now.table.now = mul-le-mul_left p (omega arith) in
    omega arith

pub returns-clause-at_most : goal.returns-clause-at_most
returns-clause-at_most c =
    let p = c.args.by.now.parents in
    let few : length c.members.reached.members.items ≤ length c.members.reached.seen.items = reached_few _ _ _ _ _ _ c.members.invariant.reaches in
    let all : p * c.members.at ≤ p * length c.args.by.now.table.now = mul-le-mul_left p (omega arith) in
    omega arith

pub members-smaller : goal.members-smaller
members-smaller c =
    let few : length c.members.reached.members.items ≤ length c.members.reached.seen.items = reached_few _ _ _ _ _ _ c.members.invariant.reaches in
    omega (arith, c.in_ok-position.ensures.as_long)

pub members-preserved : goal.members-preserved
members-preserved c =
    let ok = c.in_ok-position.ensures in
    let was = c.members.invariant in
    let here : c.members.at < length c.members.reached.members.items = search rules in
    let longer : length c.members.reached.members.items ≤ length c.scan_once.new.reached.members.items = ok.grows.longer in
    record {
      reaches = ok.reaches;
      grows = grows_trans _ c.members.reached.members.items _ was.grows ok.grows;
      as_long = omega (arith, ok.as_long);
      scanned = ok.scanned;
      early = λ bound h. ok.early bound (was.early bound h);
      searched = searched_more (acceptance c.args.by.now) c.args.by.now.stays.now c.members.at c.args.by.now.holders.now c.members.reached.members.items _ here ok.grows was.searched
          (rw c.in_default.is at ok.closed);
      later = omega arith;
      from_start = omega arith;
      within = omega arith;
      onward = search rules;
      most = omega arith;
    }
