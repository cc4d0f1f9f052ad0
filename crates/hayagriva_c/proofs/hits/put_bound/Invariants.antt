use Rattle.std.proofs.Common.{◌≡◌, ◌≤◌, ◌-◌, length, map, take}
use Rattle.std.specs.Prelude.{string_bytes}
use Rattle.hayagriva_c.specs.Hits.{AllSlots, IsSlot}
use Rattle.hayagriva_c.proofs.hits.put_bound.Given as goal

-- the slots of the names so far are filled
abbrev pub invariant-slots : goal.invariant-slots
invariant-slots l =
    (l.k ≤ length l.asked.names.items)
    × ((length l.bound ≡ length l.fn.bound)
    × AllSlots (IsSlot l.shelf.library l.found) (take l.k (map string_bytes l.asked.names.items)) l.fn.bound l.bound)

abbrev pub decreases-slots : goal.decreases-slots
decreases-slots l = length l.asked.names.items - l.k
