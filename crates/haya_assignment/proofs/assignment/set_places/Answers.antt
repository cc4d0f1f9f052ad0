use Rattle.std.proofs.Common.{ℕ, false, get_or}
use Rattle.haya_assignment.proofs.Lowering.{set_more, set_skip}
use Rattle.haya_assignment.proofs.assignment.set_places.Goals as goal
use Rattle.haya_assignment.proofs.assignment.set_places.Goals.{then-flags-place+in_ok-push, else-flags-place}

pub flags-preserved : goal.flags-preserved
flags-preserved c =
    let flag = λ (i : ℕ). get_or c.args.flags.now i false in
    elim c.if-flags-place.branch [
      | then-flags-place+in_ok-push w ↦
          rw (w.places-is, w.in_ok-push.ensures.items) (set_more flag c.flags.place c.flags.places.items c.flags.invariant w.if-flags-place.true)
      | else-flags-place w ↦ rw w.places-is (set_skip flag c.flags.place c.flags.places.items c.flags.invariant w.if-flags-place.false)
    ]
