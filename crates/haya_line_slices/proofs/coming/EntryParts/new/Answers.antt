use Rattle.std.proofs.Common.{[], refl, arith}
use Rattle.haya_line_slices.proofs.coming.EntryParts.new.Goals as goal

pub returns : goal.returns
returns c = λ more. record {
  at = record { front = []; is = refl; whole = refl; before = tt; all = refl; none = λ k d within. absurd (omega arith) };
  within = omega arith;
}
