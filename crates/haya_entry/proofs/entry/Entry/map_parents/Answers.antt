use Rattle.haya_entry.proofs.entry.Entry.map_parents.Goals as goal

pub returns : goal.returns
returns g c = let asks = c.map_parents_counted.ensures.asks in (asks.0, asks.1, asks.2)
