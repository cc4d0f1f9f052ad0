use Rattle.std.specs.Fmt.{HasWritten, IsPlainFormatter}
use Rattle.haya_numbers.specs.NumericForms.{copies}
use Rattle.haya_numbers.proofs.numeric.form.write_copies.Given as goal

-- so many copies are written
abbrev pub invariant-copies : goal.invariant-copies
invariant-copies g l = IsPlainFormatter l.initial.f → HasWritten g.W.Write.write_str_gives l.initial.f (copies l.counter l.letters) l.f
