use Rattle.std.proofs.Common.{◌≡◌, ◌∷◌, [], ◌∙◌, ap, rules, tests, length}
use Rattle.haya_entry.specs.Tree.{view}
use Rattle.haya_printing.proofs.Alone.{first_alone}
use Rattle.haya_printing.proofs.lines.is_alone.Goals as goal

pub returns-in-Some-clause-yes : goal.returns-in-Some-clause-yes
returns-in-Some-clause-yes c = λ same.
    let one : length c.args.library.now ≡ 1 = search (rules, tests) in
    let value : view c.in-Some.first.now ≡ view c.args.entry.now = (c.entries_equal_by_value.ensures c.in-Some.first.now c.args.entry.now).0 (search rules) in
    first_alone c.args.library.now (view c.in-Some.first.now) one (search rules) ∙ ap (λ t. t ∷ []) value
