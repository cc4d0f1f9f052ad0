use Rattle.std.proofs.lemmas.Cmp.{int_cmp_total, lists_total, nat_cmp_total, on_total, then_total}
use Rattle.std.specs.Cmp.{IsTotalOrder}
use Rattle.std.specs.Cmp.Lexicographic.{options_total}
use Rattle.haya_numbers.specs.Numeric.{csl_order, numbers}
use Rattle.haya_numbers.specs.Pages.{part_end, part_start}
use Rattle.haya_numbers.specs.PagesOrder.{kind_place, part_order}
use Rattle.haya_numbers.proofs.laws.pages.order.Goals as goal

numerics : IsTotalOrder csl_order
numerics = on_total (λ n. numbers n.value) (lists_total int_cmp_total)

parts : IsTotalOrder part_order
parts = then_total (on_total kind_place nat_cmp_total) (then_total (on_total part_start (options_total numerics)) (on_total part_end (options_total numerics)))

pub returns : goal.returns
returns c = record { part = parts; pages = lists_total parts }
