use Rattle.haya_csl.specs.Made.{IsMadeOf}
use Rattle.haya_csl.specs.Turns.{items_left}
use Rattle.haya_csl.proofs.turns.Made.take_items.Given as goal

-- the whole list gives what was made so far, and what the items that are left give
abbrev pub invariant-items : goal.invariant-items
invariant-items l = IsMadeOf l.by (items_left l.reader) (items_left l.fn.reader) l.place l.self
