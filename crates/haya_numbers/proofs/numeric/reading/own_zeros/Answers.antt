use Rattle.std.proofs.Common.{cond, ap, sym, ◌∙◌}
use Rattle.haya_numbers.proofs.Prefixes.{own_zeros-none, own_zeros-some}
use Rattle.haya_numbers.proofs.numeric.reading.own_zeros.Goals as goal

pub returns-then-is_empty : goal.returns-then-is_empty
returns-then-is_empty c = own_zeros-none c.args.zeros.now _ (sym c.is_empty.ensures ∙ c.if-is_empty.true)

pub returns-then-is_next_numeric : goal.returns-then-is_next_numeric
returns-then-is_next_numeric c = sym (own_zeros-some c.args.zeros.now _ c.utf8.zeros (sym c.is_empty.ensures ∙ c.if-is_empty.false) ∙ ap (λ b. cond b 0 1) (sym c.is_next_numeric.ensures ∙ c.if-is_next_numeric.true))

pub returns-else-is_next_numeric : goal.returns-else-is_next_numeric
returns-else-is_next_numeric c = sym (own_zeros-some c.args.zeros.now _ c.utf8.zeros (sym c.is_empty.ensures ∙ c.if-is_empty.false) ∙ ap (λ b. cond b 0 1) (sym c.is_next_numeric.ensures ∙ c.if-is_next_numeric.false))
