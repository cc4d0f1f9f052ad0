use Rattle.std.proofs.Common.{◌≡◌, ◌<◌, ℕ, get_or, length, arith, subst}
use Rattle.haya_assignment.proofs.Holding.{AreHoldersUpTo, holders_all, holders_more, holders_skip}
use Rattle.haya_assignment.proofs.place.holders_of.Goals as goal
use Rattle.haya_assignment.proofs.place.holders_of.Goals.{then-member-other, else-member-other}

pub members-preserved : goal.members-preserved
members-preserved c =
    elim c.if-member-other.branch [
      | then-member-other w ↦
          let within : get_or c.args.positions.now c.members.member 0 < c.args.parents = c.requires.within c.members.member (omega arith) w.if-member-other.true in
          rw w.holders-is (holders_more c.members.member c.args.other c.args.parents c.args.positions.now c.members.holders.items w.if-member-other.true within c.members.invariant)
      | else-member-other w ↦ rw w.holders-is (holders_skip c.members.member c.args.other c.args.parents c.args.positions.now c.members.holders.items (omega arith) c.members.invariant)
    ]

pub returns : goal.returns
returns c =
    let all : c.members.member ≡ length c.args.positions.now = omega arith in
    holders_all c.args.other c.args.parents c.args.positions.now c.members.holders.items
    (subst (λ (n : ℕ). AreHoldersUpTo n c.args.other c.args.parents c.args.positions.now c.members.holders.items) all c.members.invariant)
