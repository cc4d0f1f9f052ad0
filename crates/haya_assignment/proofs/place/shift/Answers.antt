use Rattle.std.proofs.Common.{◌≡◌, ◌≢◌, ℕ, ◌<◌, ◌∙◌, true, false, sym, subst, length, get_or, arith}
use Rattle.std.proofs.lemmas.List.{get_or_read, length-set, get_or-set_other}
use Rattle.haya_assignment.specs.Shift.{IsChain, IsReady}
use Rattle.haya_assignment.proofs.Shifting.{ready_step, ready_end}
use Rattle.haya_assignment.proofs.place.shift.Goals as goal

pub back-preserved : goal.back-preserved
back-preserved c =
    let links = c.requires.chain in
    let r = c.args.reached.now in
    let ps = c.back.positions in
    let ms = r.members.items in
    let fs = r.from.items in
    let t = c.back.at in
    let in_ms : t < length ms = c.back.invariant.in_reached in
    let even : length fs ≡ length ms = links.as_many in
    let long : length ps ≡ length c.args.positions.now = c.back.invariant.as_long in
    let moves : 0 < t = c.back-test.true in
    let member : c.index-moved.result.now ≡ get_or ms t 0 = get_or_read ms t _ in_ms c.index-moved.ensures 0 in
    let from : c.index-at.result.now ≡ get_or fs t 0 = get_or_read fs t _ (omega arith) c.index-at.ensures 0 in
    let known : get_or ms t 0 < length c.args.positions.now = links.known t in_ms in
    let back : get_or fs t 0 < t = links.earlier t moves in_ms in
    record {
      in_reached = omega arith;
      as_long = length-set ps c.index-moved.result.now c.back.position ∙ long;
      kept = λ stays all u stay.
          let no : get_or stays (get_or ms t 0) false ≡ false = all t moves in_ms in
          let ne : u ≢ get_or ms t 0 = λ e. let yes : get_or stays (get_or ms t 0) false ≡ true = rw (← e) stay in absurd (cc) in
          rw member (c.back.invariant.kept stays all u stay ∙ sym (get_or-set_other ps (get_or ms t 0) u c.back.position 0 ne));
      ready = λ A bound h.
          let chain : IsChain c.args.member (length ps) r = subst (λ (n : ℕ). IsChain c.args.member n r) (sym long) links in
          rw (member, from) (ready_step A bound c.args.member ps r t c.back.position chain in_ms moves (c.back.invariant.ready A bound h));
    }

pub returns-clause-kept : goal.returns-clause-kept
returns-clause-kept c = λ stays no all u stay.
    let ne : u ≢ c.args.member = λ e. let yes : get_or stays c.args.member false ≡ true = rw (← e) stay in absurd (cc) in
    c.back.invariant.kept stays all u stay ∙ sym (get_or-set_other c.back.positions c.args.member u c.back.position 0 ne)

pub returns-clause-placed : goal.returns-clause-placed
returns-clause-placed c = λ A bound h.
    let links = c.requires.chain in
    let ps = c.back.positions in
    let root : c.back.at ≡ 0 = omega arith in
    let long : length c.args.positions.now ≡ length ps = sym c.back.invariant.as_long in
    let chain : IsChain c.args.member (length ps) c.args.reached.now = subst (λ (n : ℕ). IsChain c.args.member n c.args.reached.now) long links in
    ready_end A bound c.args.member ps c.args.reached.now c.back.position chain
    (subst (λ (t : ℕ). IsReady A bound c.args.member ps c.args.reached.now t c.back.position) root (c.back.invariant.ready A bound h))
