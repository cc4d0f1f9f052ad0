use Rattle.std.proofs.Common.{◌≡◌, map, take}
use Rattle.haya_text.proofs.try_clone.VecTryClone.try_clone.Given as goal

-- the copies so far are those of the items so far
abbrev pub invariant-loop-item : goal.invariant-loop-item
invariant-loop-item g l = map g.T.TryClone.view l.copy.items ≡ map g.T.TryClone.view (take l.item-index l.item-items)
