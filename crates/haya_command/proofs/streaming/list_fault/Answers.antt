use Rattle.std.proofs.Common.{inl, inr, refl}
use Rattle.haya_command.proofs.streaming.list_fault.Goals as goal

pub returns-in-CannotRead : goal.returns-in-CannotRead
returns-in-CannotRead g c =
    elim c.of_read.ensures [
      | inl out ↦ inl out.1
      | inr read ↦ inr (rw c.in-CannotRead.is (c.in-Ok.name, c.in-Ok.ensures.ok, read.1, read.0))
    ]

pub returns-in-NotText : goal.returns-in-NotText
returns-in-NotText g c = inr (rw c.in-NotText.is (c.in-Ok.name, c.in-Ok.ensures.ok, refl))

pub returns-in-Refused-Line : goal.returns-in-Refused-Line
returns-in-Refused-Line g c =
    inr (rw (c.in-Refused-Line.is, c.in-Refused-Line.field-0-is) (c.in-Ok.name, c.into.result, c.in-Ok.ensures.ok, c.into.ensures, refl))
