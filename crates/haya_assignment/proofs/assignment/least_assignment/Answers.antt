use Rattle.std.proofs.Common.{◌≡◌, ◌<◌, ◌≤◌, ◌∙◌, inl, inr, refl, sym, length, drop, arith, rules}
use Rattle.std.specs.Prelude.{◌⊎◌}
use Rattle.std.proofs.lemmas.List.{length-map, take_at}
use Rattle.haya_assignment.specs.Assignment.{rows}
use Rattle.haya_assignment.proofs.Bridging.{least_from}
use Rattle.haya_assignment.proofs.LawsOfLists.{greedy_is_least}
use Rattle.haya_assignment.proofs.Lowering.{looks_of_all, placed_few, some_begin}
use Rattle.haya_assignment.proofs.assignment.least_assignment.Goals as goal

pub returns-then-len-table-clause-answer : goal.returns-then-len-table-clause-answer
returns-then-len-table-clause-answer c =
    let all : length c.in_ok-first.first.items ≡ length c.args.table.now = search rules in
    greedy_is_least (rows c.args.table.now) c.in_ok-first.first.items (c.in_ok-first.ensures.answer refl all)

pub complete-requires-clause-fewer : goal.complete-requires-clause-fewer
complete-requires-clause-fewer c = elim c.longer.ensures.either [
  | inl e ↦ rw e c.in_ok-other.ensures.fewer
  | inr e ↦ rw e c.in_ok-first.ensures.fewer
]

pub complete-requires-clause-placed : goal.complete-requires-clause-placed
complete-requires-clause-placed c = elim c.longer.ensures.either [
  | inl e ↦ rw e c.in_ok-other.ensures.placed
  | inr e ↦ rw e c.in_ok-first.ensures.placed
]

pub returns-in_err-lower-in-Found-clause-at_most : goal.returns-in_err-lower-in-Found-clause-at_most
returns-in_err-lower-in-Found-clause-at_most c =
    let table = c.args.table.now in
    let p = c.args.parents in
    let m = length table in
    let completed = rw c.in-Found.is at c.in_ok-positions.ensures.answer in
    let few : length c.in-Found.positions.items ≤ p = placed_few table p c.in-Found.positions.items c.requires.width completed.1 in
    let many : length (rows table) ≡ m = length-map table (λ row. row.items) in
    let fits : m ≤ p = omega (arith, completed.0) in
    let some : (m ≡ 0) ⊎ (0 < length c.longer.result.items) = some_begin table c.longer.result.items c.in-Found.positions.items c.in_ok-first.first.items completed.0 completed.1 c.longer.ensures.long (c.in_ok-first.ensures.first refl) in
    looks_of_all m p (length c.longer.result.items) c.args.steps.now c.take_in_turn.new.steps c.take_in_turn-2.new.steps c.complete.new.steps c.lower.new.steps fits some
    c.take_in_turn.ensures.at_most c.take_in_turn-2.ensures.at_most c.complete.ensures.at_most c.lower.ensures.at_most

pub returns-in-Found-clause-answer : goal.returns-in-Found-clause-answer
returns-in-Found-clause-answer c =
    let table = c.args.table.now in
    let new = c.lower.new.positions in
    let old = c.in-Found.positions in
    let completed = rw c.in-Found.is at c.in_ok-positions.ensures.answer in
    let as_many : length (rows table) ≡ length table = length-map table (λ row. row.items) in
    let before : length old.items ≡ length (rows table) = completed.0 in
    let long : length new ≡ length table = c.lower.ensures.one_each in
    let whole : old.len ≡ length old.items = old.ok.0 in
    let least = c.in_ok-lower-in-Found.ensures.least in
    rw (take_at new (drop (length new) old.items) old.len (omega arith))
    (least_from (rows table) new (long ∙ sym as_many) c.in_ok-lower-in-Found.ensures.placed (rw as_many least))

pub returns-in-Found-clause-at_most : goal.returns-in-Found-clause-at_most
returns-in-Found-clause-at_most c =
    let table = c.args.table.now in
    let p = c.args.parents in
    let m = length table in
    let completed = rw c.in-Found.is at c.in_ok-positions.ensures.answer in
    let few : length c.in-Found.positions.items ≤ p = placed_few table p c.in-Found.positions.items c.requires.width completed.1 in
    let many : length (rows table) ≡ m = length-map table (λ row. row.items) in
    let fits : m ≤ p = omega (arith, completed.0) in
    let some : (m ≡ 0) ⊎ (0 < length c.longer.result.items) = some_begin table c.longer.result.items c.in-Found.positions.items c.in_ok-first.first.items completed.0 completed.1 c.longer.ensures.long (c.in_ok-first.ensures.first refl) in
    looks_of_all m p (length c.longer.result.items) c.args.steps.now c.take_in_turn.new.steps c.take_in_turn-2.new.steps c.complete.new.steps c.lower.new.steps fits some
    c.take_in_turn.ensures.at_most c.take_in_turn-2.ensures.at_most c.complete.ensures.at_most c.lower.ensures.at_most
