use Rattle.std.proofs.Common.{◌≡◌, ◌+◌, ◌-◌, suc, arith}
use Rattle.haya_latex.proofs.scans.arguments_length.Goals as goal

pub arguments-preserved : goal.arguments-preserved
arguments-preserved c =
    let one_more : c.args.arguments - c.arguments.counter ≡ suc (c.args.arguments - (c.arguments.counter + 1)) = omega arith in
    let before = rw one_more at c.arguments.invariant.arguments in
    record {
      arguments = rw (c.split_at.ensures.back, c.argument_length-length.ensures.length) (omega (arith, before));
      within = omega arith;
    }
