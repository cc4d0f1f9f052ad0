use Rattle.std.proofs.Common.{◌≡◌, ◌++◌, ap, sym, ◌∙◌, subst}
use Rattle.std.specs.Prelude.{string_bytes}
use Rattle.std.proofs.KnownBytes.{Keeps-refl}
use Rattle.std.proofs.lemmas.Result.{err_from_is_err_and}
use Rattle.haya_hits.specs.Line.{IsLineOf}
use Rattle.haya_run.proofs.Lines.{none_printed, one_printed, part_printed, piece_printed, at_any_fault}
use Rattle.haya_run.proofs.printing.print_hits.Goals as goal

pub hits-init : goal.hits-init
hits-init g c = rw c.into_iter-hit-iterator.ensures.into_iter_gives (none_printed _ _)

pub returns-in_err-hit-clause-part : goal.returns-in_err-hit-clause-part
returns-in_err-hit-clause-part g c = at_any_fault c.from_residual.result _ (λ fault. part_printed _ _ _ _ _ c.hits.invariant fault (Keeps-refl _))

pub returns-in_err-push_line-clause-part : goal.returns-in_err-push_line-clause-part
returns-in_err-push_line-clause-part g c = at_any_fault c.from_residual-in_err-push_line.result _ (λ fault. part_printed _ _ _ _ _ c.hits.invariant fault (Keeps-refl _))

pub hits-preserved : goal.hits-preserved
hits-preserved g c =
    let (line, is, put) = c.in_ok-push_line.ensures in
    let whole : string_bytes c.push_line.new.text ≡ line = put ∙ ap (λ l. l ++ line) c.clear.ensures.bytes in
    one_printed _ _ _ _ _ c.hits.invariant c.in_ok-hit.field-0 _ line (rw c.in_ok-hit.was at c.in-Some.ensures.steps) is (rw (c.as_str.ensures.value, whole) at c.in_ok-write_all.ensures.written)

pub returns-in_err-write_all-clause-part : goal.returns-in_err-write_all-clause-part
returns-in_err-write_all-clause-part g c =
    let p = err_from_is_err_and c.from_residual-in_err-write_all.result c.from_residual-in_err-write_all.ensures.1 in
    let (piece, behind, parts, taken) = c.in_err-write_all.ensures.begun in
    let (line, is, put) = c.in_ok-push_line.ensures in
    let whole : string_bytes c.push_line.new.text ≡ line = put ∙ ap (λ l. l ++ line) c.clear.ensures.bytes in
    rw (p.1, p.2)
    (piece_printed _ _ _ _ _ c.hits.invariant c.in_ok-hit.field-0 _ piece behind (rw c.in_ok-hit.was at c.in-Some.ensures.steps) (subst (IsLineOf c.in_ok-hit.field-0) (sym whole ∙ sym c.as_str.ensures.value ∙ parts) is) taken)

pub returns-clause-part : goal.returns-clause-part
returns-clause-part g c = part_printed _ _ _ _ _ c.hits.invariant _ c.in-Err.ensures.bytes
