use Rattle.std.proofs.Common.{◌≡◌, ◌+◌, [], ◌∷◌, drop, ap, sym, subst, ◌∙◌}
use Rattle.std.specs.Prelude.{string_bytes}
use Rattle.std.proofs.lemmas.List.{at_drop_more, drop_all}
use Rattle.haya_hits.specs.Line.{IsEscapedLineOf}
use Rattle.haya_command.proofs.Lines.{Shown, one_shown, all_shown}
use Rattle.haya_command.proofs.printing.key_lines.Goals as goal

pub hits-preserved : goal.hits-preserved
hits-preserved c =
    let (line, is, put) = c.in_ok-push_escaped_line.ensures in
    let hits = c.args.hits.now in
    let next : drop c.hits.hit-index hits ≡ c.hit-item.result ∷ drop (c.hits.hit-index + 1) hits = at_drop_more (λ l. l) hits c.hits.hit-index c.hit-item.result c.hits-test.true ∙ ap (λ h. h ∷ drop (c.hits.hit-index + 1) hits) (sym c.hit-item.is) in
    subst (Shown IsEscapedLineOf hits (drop (c.hits.hit-index + 1) hits)) (sym put)
    (one_shown IsEscapedLineOf hits c.hit-item.result _ _ line (subst (λ left. Shown IsEscapedLineOf hits left (string_bytes c.hits.text)) next c.hits.invariant) is)

pub returns : goal.returns
returns c =
    let hits = c.args.hits.now in
    let none : drop c.hits.hit-index hits ≡ [] = drop_all c.hits.hit-index hits c.hits-test.false in
    all_shown IsEscapedLineOf hits _ (subst (λ left. Shown IsEscapedLineOf hits left (string_bytes c.hits.text)) none c.hits.invariant)
