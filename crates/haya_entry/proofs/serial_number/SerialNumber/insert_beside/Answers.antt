use Rattle.std.proofs.Common.{refl}
use Rattle.haya_entry.proofs.SerialLemmas.{no_serials, serials-insert, two_keys}
use Rattle.haya_entry.proofs.serial_number.SerialNumber.insert_beside.Goals as goal

pub invariant_of-self-in_default-insert : goal.invariant_of-self-in_default-insert
invariant_of-self-in_default-insert c =
    let none = no_serials c.args.self.now c.requires.none in
    record { apart = rw (none.0, c.in_default-insert.ensures.entries, c.in_default.ensures.entries, none.1, two_keys c.args.first.0 c.args.key c.args.first.1 c.args.text c.requires.apart) refl }

pub returns-clause-ok : goal.returns-clause-ok
returns-clause-ok c =
    let none = no_serials c.args.self.now c.requires.none in
    rw (none.0, c.in_default-insert.ensures.entries, c.in_default.ensures.entries, none.1, serials-insert) refl
