use Rattle.std.proofs.Common.{◌<◌, length, arith, sym, ◌∙◌}
use Rattle.haya_text.proofs.Pushes.{ends_in-last}
use Rattle.haya_text.proofs.strings.chunked.ChunkedString.ends_in.Goals as goal

pub returns-in-Some : goal.returns-in-Some
returns-in-Some c =
    let some : 0 < length c.deref.result.now = c.in-Some.ensures.item.3.0 in
    rw (← c.deref.ensures.value) (c.eq.ensures ∙ sym (ends_in-last c.deref.result.now _ c.in-Some.last.now c.args.kind (omega arith) c.in-Some.ensures.item.1))
