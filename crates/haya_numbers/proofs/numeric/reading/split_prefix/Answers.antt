use Rattle.std.proofs.Common.{ap, ◌∙◌}
use Rattle.std.specs.Str.{chars}
use Rattle.haya_numbers.proofs.Prefixes.{prefix-cut}
use Rattle.haya_numbers.proofs.numeric.reading.split_prefix.Goals as goal

pub overflow_sub-place : goal.overflow_sub-place
overflow_sub-place c = (prefix-cut c.args.text.now _ _ _ _ _ _ c.utf8.text c.new-cursor.ensures c.eat_run.ensures.rest c.eat_run.ensures.same_text c.eat_run-zeros.ensures.run c.eat_run-zeros.ensures.rest c.eat_run-zeros.ensures.same_text c.place.ensures c.own_zeros.ensures).within

pub split_at-requires : goal.split_at-requires
split_at-requires c = (prefix-cut c.args.text.now _ _ _ _ _ _ c.utf8.text c.new-cursor.ensures c.eat_run.ensures.rest c.eat_run.ensures.same_text c.eat_run-zeros.ensures.run c.eat_run-zeros.ensures.rest c.eat_run-zeros.ensures.same_text c.place.ensures c.own_zeros.ensures).boundary

pub returns-clause-prefix : goal.returns-clause-prefix
returns-clause-prefix c =
    let cut = prefix-cut c.args.text.now _ _ _ _ _ _ c.utf8.text c.new-cursor.ensures c.eat_run.ensures.rest c.eat_run.ensures.same_text c.eat_run-zeros.ensures.run c.eat_run-zeros.ensures.rest c.eat_run-zeros.ensures.same_text c.place.ensures c.own_zeros.ensures in
    c.split_at.ensures.front ∙ cut.front

pub returns-clause-rest : goal.returns-clause-rest
returns-clause-rest c =
    let cut = prefix-cut c.args.text.now _ _ _ _ _ _ c.utf8.text c.new-cursor.ensures c.eat_run.ensures.rest c.eat_run.ensures.same_text c.eat_run-zeros.ensures.run c.eat_run-zeros.ensures.rest c.eat_run-zeros.ensures.same_text c.place.ensures c.own_zeros.ensures in
    ap chars c.split_at.ensures.back ∙ cut.back
