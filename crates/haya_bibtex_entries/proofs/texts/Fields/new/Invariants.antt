use Rattle.std.proofs.Common.{◌≡◌, length, take}
use Rattle.haya_bibtex_entries.proofs.TakenPlaces.{Taken}
use Rattle.haya_bibtex_entries.proofs.texts.Fields.new.Given as goal

-- the places of the names so far are taken
abbrev pub invariant-fields : goal.invariant-fields
invariant-fields l = record {
  length : length l.taken ≡ 256;
  taken : Taken l.taken (take l.field-index l.list);
}
