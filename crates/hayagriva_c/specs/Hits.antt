-- Hits one at a time, with numbers of entries.
use Rattle.std.specs.Prelude.{◌≡◌, ◌⊎◌, ◌+◌, ◌-◌, ◌^◌, ℕ, List, [], ◌∷◌, Option, None, Some, length, map, slice_get, string_bytes}
use Rattle.haya_entry.specs.Tree.{Tree}
use Rattle.haya_selectors.specs.Applied.{AreBindings}
use Rattle.haya_selectors.specs.Binds.{bound_to}
use Rattle.haya_selectors.specs.Syntax.{Syntax}
use Rattle.haya_views.specs.Hits.{hits_from}
use Rattle.haya_views.specs.InOrder.{entry_at}
use Rattle.haya_views.specs.declared.entry_id.EntryId.{EntryId}
use Rattle.haya_views.specs.declared.hits.Found.{Found}
use Rattle.hayagriva_c.specs.declared.content.Asked.{Asked}

-- the number of no entry
abbrev pub nowhere : EntryId
nowhere = record { place = 2 ^ 64 - 1; step = 2 ^ 64 - 1 }

-- the slot has the number of the entry, or that of none where there is none
abbrev pub SlotIs : List Tree → Option Tree → EntryId → Type 0
SlotIs library None slot = slot ≡ nowhere
SlotIs library (Some t) slot = entry_at library slot ≡ Some t

-- the slot of a name at a hit, whatever entry and selector it is of
abbrev pub IsSlot : List Tree → Found → List ℕ → EntryId → Type 0
IsSlot library found name slot =
    (s : Syntax) (x : Tree) → slice_get library found.place ≡ Some x →
    AreBindings s x found.bindings → SlotIs library (bound_to s x name) slot

-- as many slots as there are names have theirs, and those behind them are as they were
abbrev pub AllSlots : (List ℕ → EntryId → Type 0) → List (List ℕ) → List EntryId → List EntryId → Type 0
AllSlots Is [] old new = new ≡ old
AllSlots Is (n ∷ ns) [] new = new ≡ []
AllSlots Is (n ∷ ns) (old ∷ olds) [] = ⊥
AllSlots Is (n ∷ ns) (old ∷ olds) (new ∷ news) = Is n new × AllSlots Is ns olds news

abbrev pub AreSlots : List Tree → Found → List (List ℕ) → List EntryId → List EntryId → Type 0
AreSlots library found names old new = AllSlots (IsSlot library found) names old new

-- a hit is given with what its names stand for, and the place behind it; or memory ran out, and only
-- the slots may have changed
abbrev pub Gives : List Tree → Asked → Found → ℕ → ℕ → ℕ → EntryId → EntryId → List EntryId → List EntryId → Type 0
Gives library asked found code from to old new olds news =
    ((code ≡ 0) × ((to ≡ found.place + 1) × ((new ≡ record { place = found.place; step = 0 })
    × AreSlots library found (map string_bytes asked.names.items) olds news)))
    ⊎ ((code ≡ 6) × ((to ≡ from) × (new ≡ old)))

-- the next hit, what its names stand for, and where to go on
pub record IsNext (library : List Tree) (asked : Asked) (from to : ℕ) (hit : EntryId) (old new : List EntryId) : Type 0 where
  pub entry : Tree
  pub at : entry_at library hit ≡ Some entry
  pub own : hit.step ≡ 0
  pub first : hits_from asked.selector library from ≡ entry ∷ hits_from asked.selector library to
  pub bound : AllSlots (λ name slot. SlotIs library (bound_to asked.selector entry name) slot) (map string_bytes asked.names.items) old new

-- there is none
pub record IsEnd (library : List Tree) (asked : Asked) (from to : ℕ) : Type 0 where
  pub none : hits_from asked.selector library from ≡ []
  pub all : to ≡ length library

-- what is answered of what may be a library and a selector. Where no hit is given all is as it was,
-- but for the place at the end; where memory runs out, the slots may have changed
abbrev pub NextGives : Option (List Tree) → Option Asked → ℕ → ℕ → ℕ → EntryId → EntryId → List EntryId → List EntryId → Type 0
NextGives None asked code from to old new olds news =
    (code ≡ 4) × ((to ≡ from) × ((new ≡ old) × (news ≡ olds)))
NextGives (Some library) None code from to old new olds news =
    (code ≡ 4) × ((to ≡ from) × ((new ≡ old) × (news ≡ olds)))
NextGives (Some library) (Some asked) code from to old new olds news =
    ((code ≡ 0) × IsNext library asked from to new olds news)
    ⊎ (((code ≡ 1) × (IsEnd library asked from to × ((new ≡ old) × (news ≡ olds))))
    ⊎ ((code ≡ 6) × ((to ≡ from) × (new ≡ old))))
