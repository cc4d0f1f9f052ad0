use Rattle.std.proofs.Common.{◌≡◌, ◌+◌, map}
use Rattle.haya_entry.specs.Tree.{view}
use Rattle.haya_views.proofs.Orders.{past}
use Rattle.haya_views.proofs.in_order.+reach.Given as goal

-- the number is so many past those of the entries so far
abbrev pub invariant-entries : goal.invariant-entries
invariant-entries l = l.step ≡ past (map view l.entries) l.entry-index + l.left
