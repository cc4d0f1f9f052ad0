use Rattle.std.proofs.Common.{rules, ◌≡◌, ◌<◌, refl, ℕ, List, ◌+◌, ◌∷◌, Option, [], drop, map, take, true, false, arith, sym, ap, ◌∙◌}
use Rattle.std.proofs.lemmas.Bool.Decides.{nat_tests}
use Rattle.haya_selectors.specs.Evaluation.{turned}
use Rattle.std.specs.Prelude.{is_some, not, option_and_then, option_map, slice_index_or}
use Rattle.haya_text.proofs.Tells.{and-both}
use Rattle.haya_entry.specs.Tree.{parents, view}
use Rattle.haya_selectors.specs.Calls.{calls, calls_on}
use Rattle.haya_selectors.specs.Holds.{candidates, holds, kept_places}
use Rattle.haya_selectors.specs.Nodes.{members_at, syntax_at}
use Rattle.haya_selectors.specs.Simple.{all_simple, is_simple}
use Rattle.haya_selectors.proofs.Walks.{walked, met_yes, met_no, to_find_all}
use Rattle.haya_selectors.proofs.NodeLists.{above_at, left_more}
use Rattle.haya_selectors.proofs.Options.{is_some-map}
use Rattle.haya_selectors.specs.Syntax.{chained, negations, syntaxes}
use Rattle.haya_selectors.proofs.Simples.{all_have, chain_calls, chain_first}
use Rattle.haya_selectors.proofs.Chains.{calls-negations, calls_on-negations, candidates-negations, chain_fails, chain_goes_on, chained_more, holds-negations, is_simple-chained, is_simple-negations, is_some-not, none_empty, simple_at}
use Rattle.haya_selectors.proofs.simple.+simple.Goals as goal

pub any_simple_holds_at-simple_holds_at-requires : goal.any_simple_holds_at-simple_holds_at-requires
any_simple_holds_at-simple_holds_at-requires t c =
    let m = above_at c.args.members.now c.loop-member.member-index (omega arith) in
    let f = syntax_at c.args.nodes.now in
    let rest = members_at c.args.nodes.now (drop (c.loop-member.member-index + 1) c.args.members.now) in
    let s = f (slice_index_or c.args.members.now c.loop-member.member-index 0) in
    let l = left_more f c.args.members.now c.loop-member.member-index (omega arith) in
    (omega (arith, m, c.decreases), (omega (arith, m, c.requires.inside), (and-both (is_simple s) (all_simple rest) (rw l at c.loop-member.invariant.2)).0))

pub any_simple_holds_on-simple_holds_on-requires : goal.any_simple_holds_on-simple_holds_on-requires
any_simple_holds_on-simple_holds_on-requires t c =
    let m = above_at c.args.members.now c.loop-member.member-index (omega arith) in
    let f = syntax_at c.args.nodes.now in
    let rest = members_at c.args.nodes.now (drop (c.loop-member.member-index + 1) c.args.members.now) in
    let s = f (slice_index_or c.args.members.now c.loop-member.member-index 0) in
    let l = left_more f c.args.members.now c.loop-member.member-index (omega arith) in
    (omega (arith, m, c.decreases), (omega (arith, m, c.requires.inside), (and-both (is_simple s) (all_simple rest) (rw l at c.loop-member.invariant.2)).0))

pub first_simple-loop-place-init : goal.first_simple-loop-place-init
first_simple-loop-place-init t c =
    let s = syntax_at c.args.nodes.now c.args.number in
    (to_find_all (holds s) (calls s) c.args.parents.now, refl)

pub first_simple-loop-place-preserved : goal.first_simple-loop-place-preserved
first_simple-loop-place-preserved t c =
    let s = syntax_at c.args.nodes.now c.args.number in
    let a = c.new-asked.ensures in
    let m = met_no (holds s) (calls s) c.args.parents.now c.loop-place.place c.index-parents-place.result (omega arith) (search rules) (sym (rw a at c.simple_holds_at.ensures.answer) ∙ c.if-simple_holds_at.false) in
    (sym m.0 ∙ c.loop-place.invariant.0, omega (arith, m.1, c.loop-place.invariant.1, rw a at c.simple_holds_at.ensures.ticks))

pub first_simple-returns-then-simple_holds_at-clause-answer : goal.first_simple-returns-then-simple_holds_at-clause-answer
first_simple-returns-then-simple_holds_at-clause-answer t c =
    let s = syntax_at c.args.nodes.now c.args.number in
    let a = c.new-asked.ensures in
    let m = met_yes (holds s) (calls s) c.args.parents.now c.loop-place.place c.index-parents-place.result (omega arith) (search rules) (sym (rw a at c.simple_holds_at.ensures.answer) ∙ c.if-simple_holds_at.true) in
    sym m.0 ∙ c.loop-place.invariant.0

pub first_simple-returns-then-simple_holds_at-clause-ticks : goal.first_simple-returns-then-simple_holds_at-clause-ticks
first_simple-returns-then-simple_holds_at-clause-ticks t c =
    let s = syntax_at c.args.nodes.now c.args.number in
    let a = c.new-asked.ensures in
    let m = met_yes (holds s) (calls s) c.args.parents.now c.loop-place.place c.index-parents-place.result (omega arith) (search rules) (sym (rw a at c.simple_holds_at.ensures.answer) ∙ c.if-simple_holds_at.true) in
    omega (arith, m.1, c.loop-place.invariant.1, rw a at c.simple_holds_at.ensures.ticks)

pub first_simple-returns-clause-answer : goal.first_simple-returns-clause-answer
first_simple-returns-clause-answer t c =
    let s = syntax_at c.args.nodes.now c.args.number in
    let w = walked (holds s) (calls s) c.args.parents.now c.loop-place.place (search rules) in
    sym w.0 ∙ c.loop-place.invariant.0

pub first_simple-returns-clause-ticks : goal.first_simple-returns-clause-ticks
first_simple-returns-clause-ticks t c =
    let s = syntax_at c.args.nodes.now c.args.number in
    let w = walked (holds s) (calls s) c.args.parents.now c.loop-place.place (search rules) in
    omega (arith, w.1, c.loop-place.invariant.1)

pub simple_has_on-returns-in-Wildcard-clause-answer : goal.simple_has_on-returns-in-Wildcard-clause-answer
simple_has_on-returns-in-Wildcard-clause-answer t c =
    let xs = map view c.args.parents.now in
    let e = rw c.in-Wildcard.is at c.at.ensures.stands in
    rw e (c.any_has.ensures ∙ sym (all_have c.args.names.now xs))

pub simple_has_on-returns-in-Ancestrage-clause-answer : goal.simple_has_on-returns-in-Ancestrage-clause-answer
simple_has_on-returns-in-Ancestrage-clause-answer t c =
    let s = syntax_at c.args.nodes.now c.args.number in
    let xs = map view c.args.parents.now in
    let kept = λ (o : Option (List ℕ)). is_some (option_and_then (kept_places c.args.names.now xs) o) in
    let e = rw c.in-Ancestrage.is at c.at.ensures.stands in
    c.has_all_there-in-Ancestrage.ensures ∙ ap (λ o. kept (option_map (λ i. i ∷ []) o)) c.first_simple.ensures.answer ∙ sym (ap kept (chain_first s _ _ xs e))

pub simple_has_on-returns-in-Ancestrage-clause-ticks : goal.simple_has_on-returns-in-Ancestrage-clause-ticks
simple_has_on-returns-in-Ancestrage-clause-ticks t c =
    let s = syntax_at c.args.nodes.now c.args.number in
    let xs = map view c.args.parents.now in
    let e = rw c.in-Ancestrage.is at c.at.ensures.stands in
    omega (arith, chain_calls s _ _ xs e, c.first_simple.ensures.ticks, c.tick-in-Ancestrage.ensures)

pub simple_holds_on-returns-in-Ancestrage-clause-answer : goal.simple_holds_on-returns-in-Ancestrage-clause-answer
simple_holds_on-returns-in-Ancestrage-clause-answer t c =
    let s = syntax_at c.args.nodes.now c.args.number in
    let xs = map view c.args.parents.now in
    let e = rw c.in-Ancestrage.is at c.at.ensures.stands in
    search rules ∙ ap is_some c.first_simple.ensures.answer ∙ sym (ap is_some (chain_first s _ _ xs e) ∙ is_some-map _ _)

pub simple_holds_on-returns-in-Ancestrage-clause-ticks : goal.simple_holds_on-returns-in-Ancestrage-clause-ticks
simple_holds_on-returns-in-Ancestrage-clause-ticks t c =
    let s = syntax_at c.args.nodes.now c.args.number in
    let xs = map view c.args.parents.now in
    let e = rw c.in-Ancestrage.is at c.at.ensures.stands in
    omega (arith, chain_calls s _ _ xs e, c.first_simple.ensures.ticks, c.tick.ensures)

pub simple_chain_holds_at-others-preserved-then-not-holds : goal.simple_chain_holds_at-others-preserved-then-not-holds
simple_chain_holds_at-others-preserved-then-not-holds t c =
    let f = syntax_at c.args.nodes.now in
    let x = view c.args.asked.now in
    let ns = c.args.others.now in
    let i = c.others.other-index in
    let s = f c.args.first in
    let inv = c.others.invariant in
    let no : c.others.holds ≡ false = search rules in
    let here = chain_fails (chained s (map f (take i ns))) (f (slice_index_or ns i 0)) _ x c.others.holds (chained_more f s ns i (omega arith)) inv.0 no in
    (here.0, omega (arith, here.1, inv.1, c.tick.ensures))

pub simple_chain_holds_at-others-preserved : goal.simple_chain_holds_at-others-preserved
simple_chain_holds_at-others-preserved t c =
    let f = syntax_at c.args.nodes.now in
    let x = view c.args.asked.now in
    let ns = c.args.others.now in
    let i = c.others.other-index in
    let s = f c.args.first in
    let r = f (slice_index_or ns i 0) in
    let inv = c.others.invariant in
    let h = c.simple_holds_on-holds in
    let above_x = c.parents-parents.ensures ∙ ap (λ e. parents (view e)) c.entry.ensures in
    let yes : c.others.holds ≡ true = search rules in
    let answer = h.ensures.answer ∙ ap (λ xs. is_some (candidates r xs)) above_x in
    let on = chain_goes_on (chained s (map f (take i ns))) r _ x c.others.holds (chained_more f s ns i (omega arith)) inv.0 yes h.result answer in
    (on.0, omega (arith, on.1, inv.1, c.tick.ensures, h.ensures.ticks, ap (calls_on r) above_x))

pub simple_chain_holds_at-simple_holds_at-holds-requires : goal.simple_chain_holds_at-simple_holds_at-holds-requires
simple_chain_holds_at-simple_holds_at-holds-requires t c =
    let f = syntax_at c.args.nodes.now in
    let ns = c.args.others.now in
    let s = f c.args.first in
    let both = and-both (is_simple s) (all_simple (syntaxes (map f ns))) (sym (is_simple-chained s (map f ns)) ∙ c.requires.simple) in
    (omega (arith, c.decreases), (c.requires.first, both.0))

pub simple_chain_holds_at-simple_holds_on-holds-requires : goal.simple_chain_holds_at-simple_holds_on-holds-requires
simple_chain_holds_at-simple_holds_on-holds-requires t c =
    let f = syntax_at c.args.nodes.now in
    let ns = c.args.others.now in
    let i = c.others.other-index in
    let s = f c.args.first in
    let both = and-both (is_simple s) (all_simple (syntaxes (map f ns))) (sym (is_simple-chained s (map f ns)) ∙ c.requires.simple) in
    let m = above_at ns i (omega arith) in
    (omega (arith, m, c.decreases), (omega (arith, m, c.requires.others), simple_at f ns i (omega arith) both.1))

pub whole_simple_holds_at-simple_holds_at-requires : goal.whole_simple_holds_at-simple_holds_at-requires
whole_simple_holds_at-simple_holds_at-requires t c =
    let s = syntax_at c.args.nodes.now c.in-Neg.inner in
    let e = rw c.in-Neg.is at c.at.ensures.stands in
    let fit = rw c.in-Neg.is at c.at.ensures.fits in
    let less : c.in-Neg.inner < c.args.number = grind (arith, nat_tests, fit) in
    (omega (arith, less, c.decreases), (omega (arith, less, c.requires.inside), sym (is_simple-negations c.in-Neg.others s) ∙ (rw e at c.requires.simple)))

pub whole_simple_holds_at-returns-in-Neg-clause-answer : goal.whole_simple_holds_at-returns-in-Neg-clause-answer
whole_simple_holds_at-returns-in-Neg-clause-answer t c =
    let n = c.in-Neg.others in
    let s = syntax_at c.args.nodes.now c.in-Neg.inner in
    let x = view c.args.asked.now in
    let e = rw c.in-Neg.is at c.at.ensures.stands in
    ap not (c.turned.ensures.answer ∙ ap (turned n) c.simple_holds_at.ensures.answer ∙ sym (holds-negations n s x)) ∙ sym (ap (λ t. holds t x) e)

pub whole_simple_holds_at-returns-in-Neg-clause-ticks : goal.whole_simple_holds_at-returns-in-Neg-clause-ticks
whole_simple_holds_at-returns-in-Neg-clause-ticks t c =
    let x = view c.args.asked.now in
    let e = rw c.in-Neg.is at c.at.ensures.stands in
    let n = calls-negations c.in-Neg.others (syntax_at c.args.nodes.now c.in-Neg.inner) x in
    omega (arith, n, ap (λ t. calls t x) e, c.tick.ensures, c.simple_holds_at.ensures.ticks, c.turned.ensures.ticks)

pub simple_holds_on-simple_holds_on-requires : goal.simple_holds_on-simple_holds_on-requires
simple_holds_on-simple_holds_on-requires t c =
    let s = syntax_at c.args.nodes.now c.in-Neg.inner in
    let e = rw c.in-Neg.is at c.at.ensures.stands in
    let fit = rw c.in-Neg.is at c.at.ensures.fits in
    let less : c.in-Neg.inner < c.args.number = grind (arith, nat_tests, fit) in
    (omega (arith, less, c.decreases), (omega (arith, less, c.requires.inside), sym (is_simple-negations c.in-Neg.others s) ∙ (rw e at c.requires.simple)))

pub simple_holds_on-returns-in-Neg-clause-answer : goal.simple_holds_on-returns-in-Neg-clause-answer
simple_holds_on-returns-in-Neg-clause-answer t c =
    let n = c.in-Neg.others in
    let s = syntax_at c.args.nodes.now c.in-Neg.inner in
    let xs = map view c.args.parents.now in
    let e = rw c.in-Neg.is at c.at.ensures.stands in
    ap not (c.turned.ensures.answer ∙ ap (turned n) c.simple_holds_on.ensures.answer ∙ sym (candidates-negations n s xs))
    ∙ sym (is_some-not (is_some (candidates (negations n s) xs)) []) ∙ sym (ap (λ t. is_some (candidates t xs)) e)

pub simple_holds_on-returns-in-Neg-clause-ticks : goal.simple_holds_on-returns-in-Neg-clause-ticks
simple_holds_on-returns-in-Neg-clause-ticks t c =
    let xs = map view c.args.parents.now in
    let e = rw c.in-Neg.is at c.at.ensures.stands in
    let n = calls_on-negations c.in-Neg.others (syntax_at c.args.nodes.now c.in-Neg.inner) xs in
    omega (arith, n, ap (λ t. calls_on t xs) e, c.tick.ensures, c.simple_holds_on.ensures.ticks, c.turned.ensures.ticks)

pub simple_holds_on-returns-in-Wildcard-clause-answer : goal.simple_holds_on-returns-in-Wildcard-clause-answer
simple_holds_on-returns-in-Wildcard-clause-answer t c =
    let xs = map view c.args.parents.now in
    let e = rw c.in-Wildcard.is at c.at.ensures.stands in
    none_empty view c.args.parents.now c.is_empty.result c.is_empty.ensures ∙ sym (ap (λ t. is_some (candidates t xs)) e)
