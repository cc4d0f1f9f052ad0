use Rattle.std.proofs.Common.{◌≡◌, ◌+◌, [], ◌∷◌, ◌++◌, drop, ap, sym, subst, ◌∙◌}
use Rattle.std.specs.Prelude.{string_bytes}
use Rattle.std.proofs.lemmas.List.{at_drop_more, drop_all}
use Rattle.std.proofs.lemmas.Result.{err_from_is_err_and}
use Rattle.haya_command.specs.Printed.{IsPrintedOf}
use Rattle.haya_command.specs.declared.form.Form.TheVariants.{Lines}
use Rattle.haya_command.proofs.Lines.{Shown, one_shown, all_shown}
use Rattle.haya_command.proofs.LinesFault.{fault_at}
use Rattle.haya_command.proofs.printing.entries_lines.Goals as goal

pub returns-in_err-lines-clause-fault : goal.returns-in_err-lines-clause-fault
returns-in_err-lines-clause-fault c =
    let p = err_from_is_err_and c.from_residual.result c.from_residual.ensures.1 in
    rw (p.1, p.2) (fault_at c.args.strict Lines c.args.hits.now c.hits.hit-index c.hit-item.result c.hits-test.true c.hit-item.is _ c.in_err-lines.ensures.fault)

pub hits-preserved : goal.hits-preserved
hits-preserved c =
    let hits = c.args.hits.now in
    let next : drop c.hits.hit-index hits ≡ c.hit-item.result ∷ drop (c.hits.hit-index + 1) hits = at_drop_more (λ l. l) hits c.hits.hit-index c.hit-item.result c.hits-test.true ∙ ap (λ h. h ∷ drop (c.hits.hit-index + 1) hits) (sym c.hit-item.is) in
    let put = c.in_ok-push_str.ensures.bytes ∙ ap (λ l. string_bytes c.hits.text ++ l) c.as_str.ensures.value in
    subst (Shown (IsPrintedOf c.args.strict) hits (drop (c.hits.hit-index + 1) hits)) (sym put)
    (one_shown (IsPrintedOf c.args.strict) hits c.hit-item.result _ _ (string_bytes c.in_ok-lines.lines) (subst (λ left. Shown (IsPrintedOf c.args.strict) hits left (string_bytes c.hits.text)) next c.hits.invariant) c.in_ok-lines.ensures.lines)

pub returns-clause-lines : goal.returns-clause-lines
returns-clause-lines c =
    let hits = c.args.hits.now in
    let none : drop c.hits.hit-index hits ≡ [] = drop_all c.hits.hit-index hits c.hits-test.false in
    all_shown (IsPrintedOf c.args.strict) hits _ (subst (λ left. Shown (IsPrintedOf c.args.strict) hits left (string_bytes c.hits.text)) none c.hits.invariant)
