use Rattle.std.proofs.Common.{◌≡◌}
use Rattle.std.specs.Prelude.{option_map}
use Rattle.haya_entry.specs.Lookups.{full_path}
use Rattle.haya_entry.specs.Tree.{at, view}
use Rattle.haya_entry.proofs.entry.Entry.get_full.Given as goal

-- what stands for the entry so far has the same answer
abbrev pub invariant-loop-full : goal.invariant-loop-full
invariant-loop-full l = option_map (at (view l.self)) (full_path (view l.self)) ≡ option_map (at (view l.full)) (full_path (view l.full))
