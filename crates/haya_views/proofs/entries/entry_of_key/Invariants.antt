use Rattle.std.proofs.Common.{◌≡◌, drop}
use Rattle.std.specs.Prelude.{find}
use Rattle.hayagriva.specs.Library.{has_key}
use Rattle.haya_views.proofs.entries.entry_of_key.Given as goal

-- the first entry with the key is the first of those from here on
abbrev pub invariant-entries : goal.invariant-entries
invariant-entries l = find (has_key l.key) l.library ≡ find (has_key l.key) (drop l.place l.library)
