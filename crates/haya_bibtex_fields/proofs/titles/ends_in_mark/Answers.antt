use Rattle.std.proofs.Common.{◌<◌, length, arith, sym, ◌∙◌}
use Rattle.haya_bibtex_fields.proofs.Marks.{ends_in_mark-last}
use Rattle.haya_bibtex_fields.proofs.titles.ends_in_mark.Goals as goal

pub returns-in-Some : goal.returns-in-Some
returns-in-Some c =
    let some : 0 < length c.deref.result.now = c.in-Some.ensures.item.3.0 in
    rw (← c.deref.ensures.value) (c.chunk_ends_in_mark.ensures ∙ sym (ends_in_mark-last c.deref.result.now _ c.in-Some.last.now (omega arith) c.in-Some.ensures.item.1))
