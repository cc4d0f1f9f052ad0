use Rattle.std.proofs.Common.{◌-◌, ◌≤◌, length, map, take}
use Rattle.haya_bibtex_slices.specs.Items.{AreItemsIn}
use Rattle.haya_bibtex_slices.specs.Views.{item_view}
use Rattle.haya_bibtex_slices.proofs.slices.items_of.Given as goal

-- the items so far are those of the texts so far
abbrev pub invariant-texts : goal.invariant-texts
invariant-texts l =
    (l.number ≤ length l.texts)
    × AreItemsIn (map (λ s. s.now) (take l.number l.texts)) (map item_view l.items.items)

abbrev pub decreases-texts : goal.decreases-texts
decreases-texts l = length l.texts - l.number
