use Rattle.std.proofs.Common.{◌≡◌, ◌+◌, ◌<◌, ◌≤◌, false, length, map, get_or, take, sum, arith}
use Rattle.std.proofs.lemmas.List.{get_or-map, length-map}
use Rattle.std.proofs.lemmas.List.Sums.{sum_by_more, sum_by_more_le}
use Rattle.haya_selectors.specs.declared.tries.Try.{Try}
use Rattle.haya_selectors.proofs.tries.total.Goals as goal

pub overflow_add-total : goal.overflow_add-total
overflow_add-total c =
    let found = λ (t : Try). t.found in
    let founds = map found c.args.tries.now in
    let at = c.tries.at in
    let none : Try = record { held = false; found = 0 } in
    let here : at < length c.args.tries.now = omega arith in
    let there : at < length founds = omega (arith, length-map c.args.tries.now found) in
    let fits : sum (take at founds) + get_or founds at 0 ≤ sum founds = sum_by_more_le (λ x. x) founds at 0 there in
    let is : get_or founds at 0 ≡ (get_or c.args.tries.now at none).found = get_or-map found c.args.tries.now at none 0 here in
    let inv : c.tries.total ≡ sum (take at founds) = c.tries.invariant in
    omega (arith, fits, is, inv, c.requires)

pub tries-preserved : goal.tries-preserved
tries-preserved c =
    let found = λ (t : Try). t.found in
    let founds = map found c.args.tries.now in
    let at = c.tries.at in
    let none : Try = record { held = false; found = 0 } in
    let here : at < length c.args.tries.now = omega arith in
    let there : at < length founds = omega (arith, length-map c.args.tries.now found) in
    let more : sum (take (at + 1) founds) ≡ sum (take at founds) + get_or founds at 0 = sum_by_more (λ x. x) founds at 0 there in
    let is : get_or founds at 0 ≡ (get_or c.args.tries.now at none).found = get_or-map found c.args.tries.now at none 0 here in
    let inv : c.tries.total ≡ sum (take at founds) = c.tries.invariant in
    omega (arith, more, is, inv)
