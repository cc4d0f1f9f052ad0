use Rattle.std.proofs.Common.{◌≡◌, ◌++◌, ◌-◌, ap, sym, ◌∙◌, length, take, drop, append_assoc, take-append-drop}
use Rattle.std.proofs.KnownBytes.{Appends-kept, Appends-trans}
use Rattle.std.proofs.lemmas.List.{take_rest}
use Rattle.haya_line_stream.proofs.writing.write_all.Goals as goal
use Rattle.haya_line_stream.proofs.writing.write_all.Goals.{in-Ok, in-Err+else-ne}

pub writes-preserved : goal.writes-preserved
writes-preserved g c =
    let (before, whole, printed) = c.writes.invariant in
    let rest = c.writes.rest.now in
    elim c.match-write.branch [
      | in-Ok w ↦
          let n = w.in-Ok.taken in
          let left : c.match-write.rest.now ≡ take (length rest - n) (drop n rest) = ap (λ r. r.now) w.rest-is in (
            before ++ take n rest,
            whole ∙ ap (λ l. before ++ l) (sym (take-append-drop n rest)) ∙ sym (append_assoc before (take n rest) (drop n rest)) ∙ ap (λ l. (before ++ take n rest) ++ l) (sym (left ∙ take_rest rest n)),
            Appends-trans _ _ _ before (take n rest) printed w.in-Ok.ensures.bytes,
          )
      | in-Err+else-ne w ↦
          (before, whole ∙ ap (λ r. before ++ r.now) (sym w.rest-is), Appends-kept _ _ _ before printed w.in-Err.ensures.bytes)
    ]
