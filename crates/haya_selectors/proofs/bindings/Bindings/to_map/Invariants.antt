use Rattle.std.proofs.Common.{◌≡◌, ℕ, List, map, option_map, take}
use Rattle.std.specs.HashMap.{get_by_text}
use Rattle.haya_selectors.specs.Binds.{last_of}
use Rattle.haya_selectors.specs.Compiled.{name_of}
use Rattle.haya_selectors.specs.Nodes.{slot_names}
use Rattle.haya_selectors.proofs.bindings.Bindings.to_map.Given as goal

abbrev pub invariant-loop-slot : goal.invariant-loop-slot
invariant-loop-slot l =
    (q : List ℕ) → option_map (λ e. e.now) (get_by_text l.map q) ≡ last_of q (take l.slot-index (map (λ p. (name_of (slot_names l.nodes) p.0, p.1.now)) l.slot-items))
