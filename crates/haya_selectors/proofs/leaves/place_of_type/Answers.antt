use Rattle.std.proofs.Common.{◌≡◌, ◌∙◌, ap, arith, false, refl, rules, sym, true}
use denote.Enum.Bare.{sameb}
use Rattle.haya_entry.specs.contracts.types.EntryType.{the_type}
use Rattle.haya_entry.specs.Names.{is_of_type}
use Rattle.haya_entry.specs.Tree.{view}
use Rattle.haya_selectors.proofs.Walks.{walked, met_yes, met_no, to_find_all}
use Rattle.haya_selectors.proofs.leaves.place_of_type.Goals as goal

pub loop-place-init : goal.loop-place-init
loop-place-init c =
    let test = is_of_type c.args.entry_type in
    (to_find_all test (λ _. 1) c.args.parents.now, refl)

pub loop-place-preserved : goal.loop-place-preserved
loop-place-preserved c =
    let test = is_of_type c.args.entry_type in
    let ps = c.args.parents.now in
    let i = c.loop-place.place in
    let x = c.index-parents-place.result in
    let no : test (view x) ≡ false = ap (λ k. sameb the_type k c.args.entry_type) (sym c.entry_type.ensures) ∙ sym c.eq.ensures ∙ c.if-eq.false in
    let m = met_no test (λ _. 1) ps i x (omega arith) (search rules) no in
    (sym m.0 ∙ c.loop-place.invariant.0, omega (arith, m.1, c.loop-place.invariant.1, c.tick.ensures))

pub returns-then-eq-clause-answer : goal.returns-then-eq-clause-answer
returns-then-eq-clause-answer c =
    let test = is_of_type c.args.entry_type in
    let ps = c.args.parents.now in
    let i = c.loop-place.place in
    let x = c.index-parents-place.result in
    let yes : test (view x) ≡ true = ap (λ k. sameb the_type k c.args.entry_type) (sym c.entry_type.ensures) ∙ sym c.eq.ensures ∙ c.if-eq.true in
    let m = met_yes test (λ _. 1) ps i x (omega arith) (search rules) yes in
    sym m.0 ∙ c.loop-place.invariant.0

pub returns-then-eq-clause-ticks : goal.returns-then-eq-clause-ticks
returns-then-eq-clause-ticks c =
    let test = is_of_type c.args.entry_type in
    let ps = c.args.parents.now in
    let i = c.loop-place.place in
    let x = c.index-parents-place.result in
    let yes : test (view x) ≡ true = ap (λ k. sameb the_type k c.args.entry_type) (sym c.entry_type.ensures) ∙ sym c.eq.ensures ∙ c.if-eq.true in
    let m = met_yes test (λ _. 1) ps i x (omega arith) (search rules) yes in
    omega (arith, m.1, c.loop-place.invariant.1, c.tick.ensures)

pub returns-clause-answer : goal.returns-clause-answer
returns-clause-answer c =
    let w = walked (is_of_type c.args.entry_type) (λ _. 1) c.args.parents.now c.loop-place.place (search rules) in
    sym w.0 ∙ c.loop-place.invariant.0

pub returns-clause-ticks : goal.returns-clause-ticks
returns-clause-ticks c =
    let w = walked (is_of_type c.args.entry_type) (λ _. 1) c.args.parents.now c.loop-place.place (search rules) in
    omega (arith, w.1, c.loop-place.invariant.1)
