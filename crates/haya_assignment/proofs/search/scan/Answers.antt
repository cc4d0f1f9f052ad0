use Rattle.std.proofs.Common.{◌≡◌, ◌∙◌, get_or, arith}
use Rattle.haya_assignment.specs.Search.{acceptance}
use Rattle.haya_assignment.proofs.Numbers.{grows_trans}
use Rattle.haya_assignment.proofs.Reaching.{accepts_within, closed_more}
use Rattle.haya_assignment.proofs.search.scan.Goals as goal

pub positions-preserved : goal.positions-preserved
positions-preserved c =
    let ok = c.in_ok-try_position.ensures in
    let was = c.positions.invariant in
    let same : get_or c.args.reached.now.members.items c.args.at 0 ≡ get_or c.positions.reached.members.items c.args.at 0 = was.grows.same c.args.at c.requires.at_in in
    record {
      reaches = ok.reaches;
      grows = grows_trans _ c.positions.reached.members.items _ was.grows ok.grows;
      as_long = omega (arith, ok.as_long);
      scanned = c.try_position.ensures.scanned ∙ was.scanned;
      early = λ bound h. ok.early bound (λ z. absurd (omega arith)) (was.early bound h);
      closed = closed_more (acceptance c.args.by.now) c.args.by.now.stays.now c.args.by.now.holders.now c.positions.reached.members.items _ _ c.positions.position ok.grows was.closed
          (λ yes. ok.closed c.if-branch.false (rw (← same) yes));
      onward = omega arith;
      most = omega arith;
    }

pub returns-clause-closed : goal.returns-clause-closed
returns-clause-closed c = λ j ok.
    let within = accepts_within c.args.by.now.table.now c.args.by.now.parents _ j c.requires.fits.width ok in
    c.positions.invariant.closed j (omega arith) ok
