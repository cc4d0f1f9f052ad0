use Rattle.std.proofs.Common.{◌≡◌, ◌++◌, drop, map}
use Rattle.std.specs.List.{flat_map}
use Rattle.haya_entry.specs.Tree.{view}
use Rattle.haya_views.specs.InOrder.{in_order}
use Rattle.haya_views.proofs.in_order.+push_all.Given as goal

-- those so far and those of the entries that are left are those before and all
abbrev pub invariant-entries : goal.invariant-entries
invariant-entries l =
    map (λ e. view e.now) l.all.items ++ flat_map in_order (map view (drop l.entry-index l.entries))
    ≡ map (λ e. view e.now) l.initial.all.items ++ flat_map in_order (map view l.entries)
