use Rattle.std.proofs.Common.{◌≡◌, ◌∷◌, [], ◌∙◌, true, false, subst, sym}
use Rattle.std.proofs.lemmas.Result.{IfOk-weaker}
use Rattle.haya_entry.specs.Tree.{view}
use Rattle.haya_line_library.specs.Input.{Describes}
use Rattle.haya_printing.specs.LeftOut.{IsPrintable}
use Rattle.haya_printing.specs.Printed.{entry_text}
use Rattle.haya_printing.proofs.printable.is_printable.Goals as goal

pub returns-clause-yes : goal.returns-clause-yes
returns-clause-yes c =
    let t = view c.args.entry.now in
    let text : c.as_str.result.now ≡ entry_text t = c.as_str.ensures.value ∙ c.in_ok-lines.ensures in
    IfOk-weaker c.is_said.result (λ b. b ≡ true → Describes c.as_str.result.now (t ∷ [])) (λ b. b ≡ true → IsPrintable t)
    (λ b says yes. record { describes = subst (λ l. Describes l (t ∷ [])) text (says yes) }) c.is_said.ensures.yes

pub returns-clause-no : goal.returns-clause-no
returns-clause-no c =
    let t = view c.args.entry.now in
    let text : c.as_str.result.now ≡ entry_text t = c.as_str.ensures.value ∙ c.in_ok-lines.ensures in
    IfOk-weaker c.is_said.result (λ b. b ≡ false → ¬ Describes c.as_str.result.now (t ∷ [])) (λ b. b ≡ false → ¬ IsPrintable t)
    (λ b says no printable. says no (subst (λ l. Describes l (t ∷ [])) (sym text) printable.describes)) c.is_said.ensures.no
