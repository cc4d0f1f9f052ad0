use Rattle.std.proofs.Common.{◌≡◌, take}
use Rattle.std.specs.Fmt.{HasWritten, IsPlainFormatter}
use Rattle.haya_numbers.proofs.Romans.{worth_left, letters_of}
use Rattle.haya_numbers.proofs.numeric.form.RomanDisplay.fmt.Given as goal

-- the letters of the rows so far are written
abbrev pub invariant-letters : goal.invariant-letters
invariant-letters g l = record {
  left : l.left ≡ worth_left (take l.value-index l.value-items) l.self.0;
  written : IsPlainFormatter l.initial.f → HasWritten g.W.Write.write_str_gives l.initial.f (letters_of (take l.value-index l.value-items) l.self.0) l.f;
}
