use Rattle.std.proofs.Common.{refl}
use Rattle.haya_entry.proofs.Trees.{view_is, view_rolled}
use Rattle.haya_entry.proofs.entry.Entry.set_keyed_serial_number.Goals as goal

pub returns-in_ok-insert-in-Some-clause-ok : goal.returns-in_ok-insert-in-Some-clause-ok
returns-in_ok-insert-in-Some-clause-ok c =
    rw (view_rolled, view_is c.args.self.now, c.in-Some.is, c.in_ok-insert-in-Some.ensures.ok, c.in_ok-key.ensures.ok) refl
