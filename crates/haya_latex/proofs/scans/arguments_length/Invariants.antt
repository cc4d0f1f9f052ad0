use Rattle.std.proofs.Common.{◌≡◌, ◌+◌, ◌-◌, length}
use Rattle.haya_latex.specs.Scans.{arguments_length}
use Rattle.haya_latex.proofs.scans.arguments_length.Given as goal

-- the arguments are as long as those so far and those that are left
abbrev pub invariant-arguments : goal.invariant-arguments
invariant-arguments l = record {
  arguments : arguments_length l.arguments l.text ≡ l.count + arguments_length (l.arguments - l.counter) l.left;
  within : l.count + length l.left ≡ length l.text;
}
