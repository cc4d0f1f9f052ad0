use Rattle.std.proofs.Common.{◌≡◌, ℕ, ◌+◌, ◌*◌, ◌<◌, ◌≤◌, ◌++◌, true, false, get_or, drop, length, reverse}
use Rattle.std.specs.Prelude.{option_map}
use Rattle.haya_assignment.specs.Assignment.{greedy, greedy_beside, rows}
use Rattle.haya_assignment.specs.Placed.{accepts, IsPlaced}
use Rattle.haya_assignment.specs.declared.greedy.Order.TheVariants.{Ascending}
use Rattle.haya_assignment.proofs.InTurn.{AreFlags}
use Rattle.haya_assignment.proofs.greedy.take_in_turn.Given as goal

abbrev pub invariant-members : goal.invariant-members
invariant-members l =
    record {
      as_many : length l.taken.items ≡ l.parents;
      many : length l.positions.items ≡ l.member;
      placed : IsPlaced (accepts (rows l.table)) l.positions.items;
      held : (u : ℕ) → u < length l.positions.items → get_or l.taken.items (get_or l.positions.items u 0) false ≡ true;
      flags : AreFlags (reverse l.positions.items) l.taken.items;
      answer : l.order ≡ Ascending → option_map (λ is. l.positions.items ++ is) (greedy_beside (reverse l.positions.items) (drop l.member (rows l.table))) ≡ greedy (rows l.table);
      first : l.member ≡ 0 → (j : ℕ) → get_or l.taken.items j false ≡ false;
      least : l.fn.steps + l.member ≤ l.steps;
      most : l.steps ≤ l.fn.steps + l.member * l.parents;
    }
