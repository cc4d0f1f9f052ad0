use Rattle.std.proofs.Common.{◌≢◌, ℕ, ◌<◌, Some, map}
use Rattle.std.specs.Prelude.{slice_get}
use Rattle.haya_entry.specs.Tree.{view}
use Rattle.haya_views.proofs.hits.place_of.Given as goal

-- none of the entries so far is equal to it
abbrev pub invariant-entries : goal.invariant-entries
invariant-entries l = (k : ℕ) → k < l.place → slice_get (map (λ e. view e.now) l.entries) k ≢ Some (view l.wanted)
