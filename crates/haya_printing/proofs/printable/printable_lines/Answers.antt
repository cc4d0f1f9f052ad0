use Rattle.std.proofs.Common.{◌∷◌, [], ◌∙◌, subst, sym}
use Rattle.haya_entry.specs.Tree.{view}
use Rattle.haya_line_library.specs.Input.{Describes}
use Rattle.haya_printing.proofs.Saying.{all_lines, lines_said}
use Rattle.haya_printing.proofs.printable.printable_lines.Goals as goal

pub returns-then-branch-clause-lines : goal.returns-then-branch-clause-lines
returns-then-branch-clause-lines c =
    all_lines c.new-left_out.result (view c.args.entry.now) _ c.new-left_out.ensures.items c.in_ok-text.ensures
    (subst (λ l. Describes l (view c.args.entry.now ∷ [])) c.as_str.ensures.value (c.in_ok-is_said.ensures.yes c.if-branch.true))

pub returns-clause-lines : goal.returns-clause-lines
returns-clause-lines c = lines_said c.new-left_out.result _ (view c.args.entry.now) _ _ c.new-left_out.ensures.items c.in_ok-part.ensures c.in_ok-text-2.ensures

pub returns-clause-whole : goal.returns-clause-whole
returns-clause-whole c = λ printable.
    absurd (c.in_ok-is_said.ensures.no c.if-branch.false (subst (λ l. Describes l (view c.args.entry.now ∷ [])) (sym (c.as_str.ensures.value ∙ c.in_ok-text.ensures)) printable.describes))
