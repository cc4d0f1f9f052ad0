use Rattle.haya_entry.specs.contracts.entry.EntryHash.TheImpl.Laws as entry
use Rattle.haya_entry.specs.contracts.types.EntryTypeHash.TheImpl.Laws as kind
use Rattle.haya_entry.specs.contracts.serial_number.SerialNumberHash.TheImpl.Laws as serial
use Rattle.haya_entry.proofs.laws.equal_entries_hash_alike.Goals as goal

pub returns-clause-entry : goal.returns-clause-entry
returns-clause-entry c = entry.respects_eq-law

pub returns-clause-kind : goal.returns-clause-kind
returns-clause-kind c = kind.respects_eq-law

pub returns-clause-serial : goal.returns-clause-serial
returns-clause-serial c = serial.respects_eq-law
