use Rattle.haya_json.specs.Notes.{notes_view}
use Rattle.haya_csl.specs.Turns.{items_left}
use Rattle.haya_csl.proofs.TakenLists.{TakesFirst}
use Rattle.haya_csl.proofs.taken.take_items.Given as goal

-- the items in front of those that are left are taken
abbrev pub invariant-items : goal.invariant-items
invariant-items g l = TakesFirst g.T.EntryTaker.takes l.by (items_left l.reader) (items_left l.fn.reader) (notes_view l.fn.notes) (notes_view l.notes) l.fn.taker l.taker
