use Rattle.std.proofs.Common.{◌≡◌, Some, take}
use Rattle.std.specs.Prelude.{All}
use Rattle.hayagriva.specs.Library.{get, key_of}
use Rattle.hayagriva.specs.Query.{hit_entry}
use Rattle.haya_bibtex_slices.proofs.printing.has_entries.Given as goal

-- the library has the entries of the hits so far
abbrev pub invariant-hits : goal.invariant-hits
invariant-hits l =
    All (λ hit. get (key_of (hit_entry hit)) l.fn.library ≡ Some (hit_entry hit)) (take l.hit-index l.hits)
