use Rattle.std.proofs.Common.{◌≡◌, ℕ, ◌∙◌, ◌++◌, false, List, [], Option, append-nil, rules, subst, sym}
use Rattle.std.specs.Option.{option_map_or}
use Rattle.haya_selectors.specs.Evaluation.{pairs_view}
use Rattle.haya_selectors.specs.Tries.{each_holds, held_rows, joined_at}
use Rattle.haya_selectors.proofs.Nowhere.{none_where_nowhere}
use Rattle.haya_selectors.proofs.Tried.{none_left}
use Rattle.haya_selectors.proofs.bindings.Bindings.settle.Goals as goal

pub returns-then-not-each_holds-clause-answer : goal.returns-then-not-each_holds-clause-answer
returns-then-not-each_holds-clause-answer c = λ xs.
    let table = held_rows c.args.parents c.args.members c.args.tries.now in
    let no : c.args.each_holds ≡ false = search rules in
    let nowhere : each_holds table ≡ false = sym c.requires.each ∙ no in
    sym (none_where_nowhere table nowhere)

pub returns-then-not-each_holds-clause-left : goal.returns-then-not-each_holds-clause-left
returns-then-not-each_holds-clause-left c = λ names front pieces l r e.
    let table = held_rows c.args.parents c.args.members c.args.tries.now in
    let no : c.args.each_holds ≡ false = search rules in
    let nowhere : each_holds table ≡ false = sym c.requires.each ∙ no in
    let left = none_left names c.args.self.now c.truncate.new.self c.args.before front pieces c.truncate.ensures l e in
    subst (λ (o : Option (List ℕ)). pairs_view names c.truncate.new.self ≡ front ++ option_map_or (joined_at pieces) o []) (sym (none_where_nowhere table nowhere)) (left ∙ sym (append-nil front))
