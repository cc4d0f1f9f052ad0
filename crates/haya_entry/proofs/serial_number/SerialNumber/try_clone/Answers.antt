use Rattle.std.proofs.Common.{refl}
use Rattle.haya_entry.proofs.SerialLemmas.{serials-from_all_zip}
use Rattle.haya_entry.proofs.serial_number.SerialNumber.try_clone.Goals as goal
use Rattle.haya_entry.proofs.serial_number.SerialNumber.try_clone.Goals.{in-Some+in_ok-clone-in-Some+in_ok-clone-in-Some-2, in-None}

pub returns : goal.returns
returns c = elim c.match-self.branch [
  | in-Some+in_ok-clone-in-Some+in_ok-clone-in-Some-2 w ↦ rw (w.only-is, w.in-Some.is, serials-from_all_zip c.args.self.now.several.entries c.in_ok-clone.field-0.entries c.in_ok-clone.ensures.cases, w.in_ok-clone-in-Some.ensures.cases, w.in_ok-clone-in-Some-2.ensures.cases) refl
  | in-None w ↦ rw (w.only-is, w.in-None.is, serials-from_all_zip c.args.self.now.several.entries c.in_ok-clone.field-0.entries c.in_ok-clone.ensures.cases) refl
]
