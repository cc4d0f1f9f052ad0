use Rattle.std.proofs.Common.{◌<◌, length, arith, ◌∙◌, ap}
use Rattle.std.proofs.Math.Seq.{map-set_same}
use Rattle.std.proofs.lemmas.Result.{err_from_is_err_and}
use Rattle.haya_text.proofs.Pushes.{set_last_grown}
use Rattle.haya_text.specs.Chunks.{chunk_view}
use Rattle.haya_text.proofs.strings.chunked.ChunkedString.grow_last.Goals as goal

pub returns-in_err-push_str-clause-err : goal.returns-in_err-push_str-clause-err
returns-in_err-push_str-clause-err c =
    let p = err_from_is_err_and c.from_residual.result c.from_residual.ensures.1 in
    rw p.1 (map-set_same chunk_view c.args.self.now.0.items _ _ c.in-Some.last.now (ap (λ b. (b, c.in-Some.last.now.kind)) c.in_err-push_str.ensures.bytes ∙ ap chunk_view c.in-Some.ensures.value))

pub returns-in_ok-push_str-clause-ok : goal.returns-in_ok-push_str-clause-ok
returns-in_ok-push_str-clause-ok c =
    let some : 0 < length c.args.self.now.0.items = c.in-Some.ensures.item.3.0 in
    set_last_grown c.args.self.now.0.items _ c.in-Some.last.now _ c.args.text.now (omega arith) c.in-Some.ensures.value (ap (λ b. (b, c.in-Some.last.now.kind)) c.in_ok-push_str.ensures.bytes)
