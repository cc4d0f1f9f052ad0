-- Hits one at a time, and the numbers of the entries that names stand for.
use Rattle.std.specs.Prelude.{◌≡◌, ◌+◌, ℕ, true, false, List, [], ◌∷◌, Option, None, Some, IfSome, IsSomeAnd, String, filter, drop, slice_get}
use Rattle.std.specs.Borrow.{Bor}
use Rattle.std.specs.HashMap.{HashMap}
use Rattle.haya_entry.specs.Tree.{Tree}
use Rattle.haya_entry.specs.declared.entry.Entry.{Entry}
use Rattle.haya_selectors.specs.Applied.{AreBindings}
use Rattle.haya_selectors.specs.Holds.{holds}
use Rattle.haya_selectors.specs.Syntax.{Syntax}
use Rattle.haya_views.specs.declared.hits.Found.{Found}

-- the entries from a place on where the selector holds
abbrev pub hits_from : Syntax → List Tree → ℕ → List Tree
hits_from s library n = filter (holds s) (drop n library)

-- the hit is the first of them, and has what the names stand for there; the others are those from
-- the next place on
pub record IsNextHit (s : Syntax) (library : List Tree) (from : ℕ) (found : Found) : Type 0 where
  pub entry : Tree
  pub at : slice_get library found.place ≡ Some entry
  pub first : hits_from s library from ≡ entry ∷ hits_from s library (found.place + 1)
  pub bound : AreBindings s entry found.bindings

-- the next hit, or there is none
abbrev pub NextIs : Syntax → List Tree → ℕ → Option Found → Type 0
NextIs s library from None = hits_from s library from ≡ []
NextIs s library from (Some found) = IsNextHit s library from found

-- what the names stand for at a place, if there is an entry where the selector holds
abbrev pub IsFoundAt : {Y S : Type 0} → Syntax → List Tree → ℕ → Option (HashMap (String Y) (Bor Entry) S) → Type 0
IsFoundAt s library place None = IfSome (slice_get library place) (λ x. holds s x ≡ false)
IsFoundAt s library place (Some bindings) =
    IsSomeAnd (slice_get library place) (λ x. (holds s x ≡ true) × AreBindings s x bindings)
