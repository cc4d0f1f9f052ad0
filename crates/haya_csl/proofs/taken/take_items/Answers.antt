use Rattle.haya_json.specs.Notes.{notes_view}
use Rattle.haya_csl.specs.Turns.{items_left}
use Rattle.haya_csl.proofs.TakenLists.{none_taken}
use Rattle.haya_csl.proofs.taken.take_items.Goals as goal

pub items-init : goal.items-init
items-init g c = none_taken g.T.EntryTaker.takes c.args.by (items_left c.args.reader.now) (notes_view c.args.notes.now) c.args.taker.now
