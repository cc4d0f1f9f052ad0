use Rattle.std.proofs.Common.{◌≡◌, ◌+◌, ◌≤◌, ◌++◌, drop, take, sum, sum_by, length}
use Rattle.haya_selectors.specs.Tries.{found_rows}
use Rattle.haya_selectors.proofs.Pieces.{chosen}
use Rattle.haya_selectors.proofs.bindings.Bindings.keep.Given as goal

-- what is kept so far, with what is kept of the rows that are left, is what is kept of all
abbrev pub invariant-members : goal.invariant-members
invariant-members l =
    let rows = found_rows l.parents (length l.places) l.tries in
    let items = l.self-inside.pairs.items in
    let olds = l.initial.self-inside.pairs.items in
    (l.to ≤ l.start)
    × (length items ≡ length olds)
    × (l.start + sum_by sum (drop l.member rows) ≡ length olds)
    × (take l.to items ++ chosen (drop l.member rows) (drop l.member l.places) (drop l.start items) ≡ take l.before olds ++ chosen rows l.places (drop l.before olds))
