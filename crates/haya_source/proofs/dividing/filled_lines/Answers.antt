use Rattle.std.proofs.Common.{◌≡◌, ◌+◌, ◌++◌, [], ◌∷◌, ap, sym, ◌∙◌, arith, length, length-append, rules, take}
use Rattle.std.specs.Str.Iter.{lines_steps}
use Rattle.std.specs.Str.Lines.{lines}
use Rattle.std.proofs.lemmas.Iterator.{YieldsList}
use Rattle.std.proofs.lemmas.Iterator.Consumers.{YieldsList-turn, YieldsList-end}
use Rattle.std.proofs.lemmas.Iterator.Splits.{YieldsList-from_lines}
use Rattle.std.proofs.lemmas.List.{take_all, take_more}
use Rattle.haya_json_elements.specs.Elements.{nonempty_lines}
use Rattle.haya_json_elements.proofs.NonemptyLines.{nonempty_lines-append}
use Rattle.haya_source.proofs.dividing.filled_lines.Goals as goal

pub lines-preserved : goal.lines-preserved
lines-preserved c =
    let all = lines c.args.text.now in
    let road : YieldsList lines_steps (λ x. x.now) c.into_iter-line-iterator.result all =
    YieldsList-from_lines c.args.text.now (search rules) in
    let turn = YieldsList-turn road c.lines.yielded c.lines.line-iterator c.lines.yielded_by
    c.next.result c.next.new.self c.in-Some.line c.in-Some.is c.next.ensures.steps in
    let count = length c.lines.yielded in
    let line = c.in-Some.line.now in
    let more : take (count + 1) all ≡ take count all ++ line ∷ [] =
    take_more all count line (omega (arith, turn.0))
    ∙ ap (λ x. take count all ++ x ∷ []) (sym turn.1) in
    let longer : length (c.lines.yielded ++ c.in-Some.line ∷ []) ≡ count + 1 =
    length-append c.lines.yielded (c.in-Some.line ∷ []) in
    c.in_ok-push_filled.ensures
    ∙ ap (λ l. l ++ nonempty_lines (line ∷ [])) c.lines.invariant
    ∙ sym (nonempty_lines-append (take count all) (line ∷ []))
    ∙ sym (ap nonempty_lines (ap (λ n. take n all) longer ∙ more))

pub returns : goal.returns
returns c =
    let all = lines c.args.text.now in
    let road : YieldsList lines_steps (λ x. x.now) c.into_iter-line-iterator.result all =
    YieldsList-from_lines c.args.text.now (search rules) in
    let end = YieldsList-end road c.lines.yielded c.lines.line-iterator c.lines.yielded_by
    c.next.result c.next.new.self c.in-None.is c.next.ensures.steps in
    c.lines.invariant
    ∙ ap nonempty_lines (take_all (length c.lines.yielded) all (omega (arith, end.1)))
