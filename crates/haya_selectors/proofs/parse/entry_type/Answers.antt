use Rattle.haya_selectors.proofs.Parsing.{type_read_at, type_unknown_at}
use Rattle.haya_selectors.proofs.parse.entry_type.Goals as goal

pub returns-in-Ok : goal.returns-in-Ok
returns-in-Ok c rest = type_read_at _ _ _ _ rest c.deref.ensures c.in_ok-lower.ensures.ok c.in-Ok.ensures

pub returns-in-Err : goal.returns-in-Err
returns-in-Err c rest = type_unknown_at _ _ _ rest c.deref.ensures c.in_ok-lower.ensures.ok c.in-Err.ensures
