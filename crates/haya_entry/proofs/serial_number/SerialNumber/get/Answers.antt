use Rattle.std.proofs.Common.{refl}
use Rattle.haya_entry.proofs.SerialLemmas.{lookup-entries}
use Rattle.haya_entry.proofs.serial_number.SerialNumber.get.Goals as goal
use Rattle.haya_entry.proofs.serial_number.SerialNumber.get.Goals.{in-Some+else-eq, in_default}

pub returns-in_err-text : goal.returns-in_err-text
returns-in_err-text c = elim c.match-self.branch [
  | in-Some+else-eq w ↦ rw (w.in-Some.is, ← w.as_str.ensures.value, ← w.eq.ensures, w.if-eq.false, lookup-entries c.args.key.now c.args.self.now.several.entries, ← c.get.ensures.value, c.in_err-text.was, c.from_residual.ensures) refl
  | in_default w ↦ rw (w.in_default.is, lookup-entries c.args.key.now c.args.self.now.several.entries, ← c.get.ensures.value, c.in_err-text.was, c.from_residual.ensures) refl
]

pub returns : goal.returns
returns c = elim c.match-self.branch [
  | in-Some+else-eq w ↦ rw (w.in-Some.is, ← w.as_str.ensures.value, ← w.eq.ensures, w.if-eq.false, lookup-entries c.args.key.now c.args.self.now.several.entries, ← c.get.ensures.value, c.in_ok-text.was, c.as_str-2.ensures.value) refl
  | in_default w ↦ rw (w.in_default.is, lookup-entries c.args.key.now c.args.self.now.several.entries, ← c.get.ensures.value, c.in_ok-text.was, c.as_str-2.ensures.value) refl
]
