use Rattle.std.proofs.Common.{rules, refl, ℕ, List, ◌≡◌, ◌+◌, ◌-◌, ◌++◌, length, true, Some, [], ◌∷◌, drop, false, map, take, append-nil, append_assoc, arith, sym, ap, ◌∙◌}
use Rattle.std.specs.Prelude.{Ok, is_some, option_map, position, slice_index_or, sum, sum_by}
use Rattle.std.proofs.Math.Bool.{and-true, and_assoc, or_assoc}
use Rattle.std.proofs.Math.ListN.{drop_of_length-le}
use Rattle.std.proofs.lemmas.Bool.{OnTrue_from}
use Rattle.std.proofs.lemmas.List.{length-map}
use Rattle.std.proofs.lemmas.List.Sums.{sum_by-cons}
use Rattle.std.proofs.lemmas.Result.{MatchResult-from_err}
use Rattle.haya_entry.specs.Tree.{parents, view}
use Rattle.haya_selectors.specs.Binds.{binds, binds_on, first_binds, pairs_at_first}
use Rattle.haya_selectors.specs.Evaluation.{AddsAt, pairs_view, turned}
use Rattle.haya_selectors.specs.Calls.{calls, first_calls}
use Rattle.haya_selectors.specs.Holds.{holds}
use Rattle.haya_selectors.specs.Places.{items_up_to}
use Rattle.haya_selectors.specs.Candidates.{candidate_places}
use Rattle.haya_selectors.specs.Nodes.{chain_at, members_at, slot_names, syntax_at}
use Rattle.haya_selectors.specs.Syntax.{Syntax, Ancestrage, chained}
use Rattle.haya_selectors.specs.Tries.{all_found, all_held, all_joined, all_tried, tried}
use Rattle.haya_selectors.proofs.Bounds.{ticks_more}
use Rattle.haya_selectors.proofs.Walks.{walked, next_of_map, place_is, met_any, met_yes, met_no, to_find_all}
use Rattle.haya_selectors.proofs.Kept.{any-map}
use Rattle.haya_selectors.proofs.Tried.{ByRows, by_rows, piece_length, settled}
use Rattle.haya_selectors.proofs.Pieces.{length_all_joined}
use Rattle.haya_selectors.proofs.Paths.{bound_under, candidates_places, resolved_led}
use Rattle.haya_selectors.proofs.Options.{is_some-map}
use Rattle.haya_selectors.proofs.NodeLists.{above_at, left_more}
use Rattle.haya_selectors.proofs.CutBack.{added_at, added_on, cut_back, kept_added, kept_more}
use Rattle.haya_selectors.proofs.Simples.{binds-simple, binds_on-simple, either}
use Rattle.haya_selectors.proofs.Chains.{calls-negations, calls_on-negations, calls_up_to, chain_fails, chain_goes_on, chained_more, holds-negations, negated_none, negated_some, on_false}
use Rattle.haya_selectors.proofs.evaluate.+evaluate.Goals as goal

pub each_takes_one-try_at_each-requires : goal.each_takes_one-try_at_each-requires
each_takes_one-try_at_each-requires t c =
    let m = above_at c.args.members.now c.loop-member.member-index (omega arith) in
    (omega (arith, m, c.decreases), omega (arith, m, c.requires))

pub first_alone-loop-place-init : goal.first_alone-loop-place-init
first_alone-loop-place-init t c =
    let s = syntax_at c.args.nodes.now c.args.number in
    (to_find_all (holds s) (calls s) c.args.parents.now, refl, refl)

pub first_alone-loop-place-preserved : goal.first_alone-loop-place-preserved
first_alone-loop-place-preserved t c =
    let s = syntax_at c.args.nodes.now c.args.number in
    let a = c.new-asked.ensures in
    let x = c.index-parents-place.result in
    let m = met_no (holds s) (calls s) c.args.parents.now c.loop-place.place x (omega arith) (search rules) (sym (rw a at c.in_ok-holds_at.ensures.answer) ∙ c.if-branch.false) in
    (sym m.0 ∙ c.loop-place.invariant.0, omega (arith, m.1, c.loop-place.invariant.1, rw a at c.in_ok-holds_at.ensures.ticks), (rw c.if-branch.false at c.in_ok-holds_at.ensures.bound) ∙ append-nil _ ∙ c.loop-place.invariant.2)

pub first_alone-returns-in_err-holds_at-clause-ticks : goal.first_alone-returns-in_err-holds_at-clause-ticks
first_alone-returns-in_err-holds_at-clause-ticks t c =
    let s = syntax_at c.args.nodes.now c.args.number in
    let a = c.new-asked.ensures in
    let x = c.index-parents-place.result in
    let m = met_any (holds s) (calls s) c.args.parents.now c.loop-place.place x (omega arith) (search rules) in
    MatchResult-from_err c.from_residual.result _ _ (search rules) (λ _. omega (arith, m, c.loop-place.invariant.1, rw a at c.in_err-holds_at.ensures.ticks))

pub first_alone-returns-then-branch-clause-answer : goal.first_alone-returns-then-branch-clause-answer
first_alone-returns-then-branch-clause-answer t c =
    let s = syntax_at c.args.nodes.now c.args.number in
    let a = c.new-asked.ensures in
    let x = c.index-parents-place.result in
    let m = met_yes (holds s) (calls s) c.args.parents.now c.loop-place.place x (omega arith) (search rules) (sym (rw a at c.in_ok-holds_at.ensures.answer) ∙ c.if-branch.true) in
    ap (option_map (λ i. i ∷ [])) (sym m.0 ∙ c.loop-place.invariant.0)

pub first_alone-returns-then-branch-clause-bound : goal.first_alone-returns-then-branch-clause-bound
first_alone-returns-then-branch-clause-bound t c =
    let s = syntax_at c.args.nodes.now c.args.number in
    let a = c.new-asked.ensures in
    let x = c.index-parents-place.result in
    let xs = map view c.args.parents.now in
    let m = met_yes (holds s) (calls s) c.args.parents.now c.loop-place.place x (omega arith) (search rules) (sym (rw a at c.in_ok-holds_at.ensures.answer) ∙ c.if-branch.true) in
    let first : position (holds s) xs ≡ Some c.loop-place.place = sym c.loop-place.invariant.0 ∙ m.0 in
    let e = resolved_led (binds s) xs c.loop-place.place (view x) (place_is (holds s) (calls s) c.args.parents.now c.loop-place.place x (omega arith) (search rules)) in
    rw (first, e, ← c.loop-place.invariant.2) (rw (c.if-branch.true, a) at c.in_ok-holds_at.ensures.bound)

pub first_alone-returns-then-branch-clause-ticks : goal.first_alone-returns-then-branch-clause-ticks
first_alone-returns-then-branch-clause-ticks t c =
    let s = syntax_at c.args.nodes.now c.args.number in
    let a = c.new-asked.ensures in
    let x = c.index-parents-place.result in
    let m = met_yes (holds s) (calls s) c.args.parents.now c.loop-place.place x (omega arith) (search rules) (sym (rw a at c.in_ok-holds_at.ensures.answer) ∙ c.if-branch.true) in
    omega (arith, m.1, c.loop-place.invariant.1, rw a at c.in_ok-holds_at.ensures.ticks)

pub first_alone-returns-clause-answer : goal.first_alone-returns-clause-answer
first_alone-returns-clause-answer t c =
    let s = syntax_at c.args.nodes.now c.args.number in
    let w = walked (holds s) (calls s) c.args.parents.now c.loop-place.place (search rules) in
    ap (option_map (λ i. i ∷ [])) (sym w.0 ∙ c.loop-place.invariant.0)

pub first_alone-returns-clause-ticks : goal.first_alone-returns-clause-ticks
first_alone-returns-clause-ticks t c =
    let s = syntax_at c.args.nodes.now c.args.number in
    let w = walked (holds s) (calls s) c.args.parents.now c.loop-place.place (search rules) in
    omega (arith, w.1, c.loop-place.invariant.1)

pub each_takes_one-loop-member-preserved : goal.each_takes_one-loop-member-preserved
each_takes_one-loop-member-preserved t c =
    let xs = map view c.args.parents.now in
    let f = syntax_at c.args.nodes.now in
    let s = f (slice_index_or c.args.members.now c.loop-member.member-index 0) in
    let l = left_more f c.args.members.now c.loop-member.member-index (omega arith) in
    let inv = rw l at c.loop-member.invariant in
    let k = c.in_ok-each_holds.ensures in (
      rw (k.held, append_assoc) inv.0,
      rw (k.lengths, append_assoc) inv.1,
      rw (k.bound, append_assoc) inv.2,
      omega (arith, inv.3, k.ticks),
      rw (k.answer, ← any-map (λ holds. holds) (holds s) xs, and_assoc) inv.4,
    )

pub each_takes_one-settle-requires-clause-count : goal.each_takes_one-settle-requires-clause-count
each_takes_one-settle-requires-clause-count t c =
    let nodes = c.args.nodes.now in
    let names = slot_names nodes in
    let xs = map view c.args.parents.now in
    let all = members_at nodes c.args.members.now in
    let none_left : drop c.loop-member.member-index c.args.members.now ≡ [] = drop_of_length-le c.args.members.now (search rules) in
    let inv = rw none_left at c.loop-member.invariant in
    let tries = c.loop-member.tries in
    let rows : ByRows all xs (length c.args.parents.now) (length c.args.members.now) (all_held tries) (all_found tries) =
    by_rows (syntax_at nodes) c.args.members.now xs (length c.args.parents.now) (all_held tries) (all_found tries) (length-map c.args.parents.now view) (sym (append-nil _) ∙ inv.0) (sym (append-nil _) ∙ inv.1) in
    rows.count

pub each_takes_one-settle-requires-clause-each : goal.each_takes_one-settle-requires-clause-each
each_takes_one-settle-requires-clause-each t c =
    let nodes = c.args.nodes.now in
    let names = slot_names nodes in
    let xs = map view c.args.parents.now in
    let all = members_at nodes c.args.members.now in
    let none_left : drop c.loop-member.member-index c.args.members.now ≡ [] = drop_of_length-le c.args.members.now (search rules) in
    let inv = rw none_left at c.loop-member.invariant in
    let tries = c.loop-member.tries in
    let rows : ByRows all xs (length c.args.parents.now) (length c.args.members.now) (all_held tries) (all_found tries) =
    by_rows (syntax_at nodes) c.args.members.now xs (length c.args.parents.now) (all_held tries) (all_found tries) (length-map c.args.parents.now view) (sym (append-nil _) ∙ inv.0) (sym (append-nil _) ∙ inv.1) in
    rw rows.held_is (sym (and-true c.loop-member.each_holds) ∙ inv.4)

pub each_takes_one-settle-requires-clause-within : goal.each_takes_one-settle-requires-clause-within
each_takes_one-settle-requires-clause-within t c =
    let nodes = c.args.nodes.now in
    let names = slot_names nodes in
    let xs = map view c.args.parents.now in
    let all = members_at nodes c.args.members.now in
    let none_left : drop c.loop-member.member-index c.args.members.now ≡ [] = drop_of_length-le c.args.members.now (search rules) in
    let inv = rw none_left at c.loop-member.invariant in
    let tries = c.loop-member.tries in
    let rows : ByRows all xs (length c.args.parents.now) (length c.args.members.now) (all_held tries) (all_found tries) =
    by_rows (syntax_at nodes) c.args.members.now xs (length c.args.parents.now) (all_held tries) (all_found tries) (length-map c.args.parents.now view) (sym (append-nil _) ∙ inv.0) (sym (append-nil _) ∙ inv.1) in
    let olds = pairs_view names c.args.found.now in
    let added : pairs_view names c.loop-member.found ≡ olds ++ all_joined (all_tried all xs) = sym (append-nil _) ∙ inv.2 in
    let n = piece_length names c.args.found.now c.loop-member.found (all_joined (all_tried all xs)) added in
    omega (arith, n, length_all_joined (all_tried all xs), ap (sum_by sum) rows.found_is, c.len-before.ensures)

pub each_takes_one-returns-clause-answer : goal.each_takes_one-returns-clause-answer
each_takes_one-returns-clause-answer t c =
    let nodes = c.args.nodes.now in
    let names = slot_names nodes in
    let xs = map view c.args.parents.now in
    let all = members_at nodes c.args.members.now in
    let none_left : drop c.loop-member.member-index c.args.members.now ≡ [] = drop_of_length-le c.args.members.now (search rules) in
    let inv = rw none_left at c.loop-member.invariant in
    let tries = c.loop-member.tries in
    let rows : ByRows all xs (length c.args.parents.now) (length c.args.members.now) (all_held tries) (all_found tries) =
    by_rows (syntax_at nodes) c.args.members.now xs (length c.args.parents.now) (all_held tries) (all_found tries) (length-map c.args.parents.now view) (sym (append-nil _) ∙ inv.0) (sym (append-nil _) ∙ inv.1) in
    rw rows.held_is at (c.in_ok-candidates.ensures.answer xs)

pub each_takes_one-returns-clause-bound : goal.each_takes_one-returns-clause-bound
each_takes_one-returns-clause-bound t c =
    let nodes = c.args.nodes.now in
    let names = slot_names nodes in
    let xs = map view c.args.parents.now in
    let all = members_at nodes c.args.members.now in
    let none_left : drop c.loop-member.member-index c.args.members.now ≡ [] = drop_of_length-le c.args.members.now (search rules) in
    let inv = rw none_left at c.loop-member.invariant in
    let tries = c.loop-member.tries in
    let rows : ByRows all xs (length c.args.parents.now) (length c.args.members.now) (all_held tries) (all_found tries) =
    by_rows (syntax_at nodes) c.args.members.now xs (length c.args.parents.now) (all_held tries) (all_found tries) (length-map c.args.parents.now view) (sym (append-nil _) ∙ inv.0) (sym (append-nil _) ∙ inv.1) in
    let olds = pairs_view names c.args.found.now in
    let added : pairs_view names c.loop-member.found ≡ olds ++ all_joined (all_tried all xs) = sym (append-nil _) ∙ inv.2 in
    let before = length-map c.args.found.now _ ∙ sym c.len-before.ensures in
    let left = rw rows.held_is at (c.in_ok-candidates.ensures.left names olds (all_tried all xs) before (sym rows.found_is) added) in
    rw c.give_back.ensures (settled {E = ℕ} all xs (Ok c.in_ok-candidates.candidates) olds (pairs_view names c.settle.new.self) (rw rows.held_is at (c.in_ok-candidates.ensures.answer xs)) left)

pub each_takes_one-returns-in_err-candidates-clause-ticks : goal.each_takes_one-returns-in_err-candidates-clause-ticks
each_takes_one-returns-in_err-candidates-clause-ticks t c =
    let none_left : drop c.loop-member.member-index c.args.members.now ≡ [] = drop_of_length-le c.args.members.now (search rules) in
    let inv = rw none_left at c.loop-member.invariant in
    MatchResult-from_err c.from_residual-in_err-candidates.result _ _ (search rules) (λ _. omega (arith, inv.3))

pub each_takes_one-returns-clause-ticks : goal.each_takes_one-returns-clause-ticks
each_takes_one-returns-clause-ticks t c =
    let none_left : drop c.loop-member.member-index c.args.members.now ≡ [] = drop_of_length-le c.args.members.now (search rules) in
    let inv = rw none_left at c.loop-member.invariant in
    omega (arith, inv.3)

pub try_at_each-loop-parent-preserved : goal.try_at_each-loop-parent-preserved
try_at_each-loop-parent-preserved t c =
    let s = syntax_at c.args.nodes.now c.args.number in
    let x = c.parent-item.result in
    let left = next_of_map view c.args.parents.now c.loop-parent.parent-index x (omega arith) (search rules) in
    let inv = rw left at c.loop-parent.invariant in
    let a = c.new-asked.ensures in
    let answer = rw a at c.in_ok-held.ensures.answer in
    let bound : pairs_view (slot_names c.args.nodes.now) c.tried_at.new.found ≡ pairs_view (slot_names c.args.nodes.now) c.loop-parent.found ++ tried s (view x) = rw answer at (rw a at c.in_ok-held.ensures.bound) in
    let n = piece_length (slot_names c.args.nodes.now) c.loop-parent.found c.tried_at.new.found (tried s (view x)) bound in
    let d : c.len.result - c.len-before.result ≡ length (tried s (view x)) = omega (arith, n, c.len.ensures, c.len-before.ensures) in (
      rw (c.in_ok-push.ensures.held, append_assoc, answer) inv.0,
      rw (c.in_ok-push.ensures.found, d, append_assoc) inv.1,
      rw (bound, append_assoc) inv.2,
      omega (arith, inv.3, sum_by-cons (calls s) (view x) (drop (c.loop-parent.parent-index + 1) (map view c.args.parents.now)), rw a at c.in_ok-held.ensures.ticks),
      rw (answer, or_assoc) inv.4,
    )

pub try_at_each-overflow_sub-len : goal.try_at_each-overflow_sub-len
try_at_each-overflow_sub-len t c =
    let s = syntax_at c.args.nodes.now c.args.number in
    let x = c.parent-item.result in
    let left = next_of_map view c.args.parents.now c.loop-parent.parent-index x (omega arith) (search rules) in
    let inv = rw left at c.loop-parent.invariant in
    let a = c.new-asked.ensures in
    let answer = rw a at c.in_ok-held.ensures.answer in
    let bound : pairs_view (slot_names c.args.nodes.now) c.tried_at.new.found ≡ pairs_view (slot_names c.args.nodes.now) c.loop-parent.found ++ tried s (view x) = rw answer at (rw a at c.in_ok-held.ensures.bound) in
    let n = piece_length (slot_names c.args.nodes.now) c.loop-parent.found c.tried_at.new.found (tried s (view x)) bound in
    omega (arith, n, c.len.ensures, c.len-before.ensures)

pub try_at_each-returns-in_err-held-clause-ticks : goal.try_at_each-returns-in_err-held-clause-ticks
try_at_each-returns-in_err-held-clause-ticks t c =
    let s = syntax_at c.args.nodes.now c.args.number in
    let x = c.parent-item.result in
    let left = next_of_map view c.args.parents.now c.loop-parent.parent-index x (omega arith) (search rules) in
    let inv = rw left at c.loop-parent.invariant in
    let a = c.new-asked.ensures in
    let k = sum_by-cons (calls s) (view x) (drop (c.loop-parent.parent-index + 1) (map view c.args.parents.now)) in
    MatchResult-from_err c.from_residual.result _ _ (search rules) (λ _. omega (arith, inv.3, k, rw a at c.in_err-held.ensures.ticks))

pub try_at_each-returns-in_err-push-clause-ticks : goal.try_at_each-returns-in_err-push-clause-ticks
try_at_each-returns-in_err-push-clause-ticks t c =
    let s = syntax_at c.args.nodes.now c.args.number in
    let x = c.parent-item.result in
    let left = next_of_map view c.args.parents.now c.loop-parent.parent-index x (omega arith) (search rules) in
    let inv = rw left at c.loop-parent.invariant in
    let a = c.new-asked.ensures in
    let k = sum_by-cons (calls s) (view x) (drop (c.loop-parent.parent-index + 1) (map view c.args.parents.now)) in
    MatchResult-from_err c.from_residual-in_err-push.result _ _ (search rules) (λ _. omega (arith, inv.3, k, rw a at c.in_ok-held.ensures.ticks))

pub each_takes_one-returns-in_err-each_holds-clause-ticks : goal.each_takes_one-returns-in_err-each_holds-clause-ticks
each_takes_one-returns-in_err-each_holds-clause-ticks t c =
    let f = syntax_at c.args.nodes.now in
    let l = left_more f c.args.members.now c.loop-member.member-index (omega arith) in
    let inv = rw l at c.loop-member.invariant in
    MatchResult-from_err c.from_residual.result _ _ (search rules) (λ _. omega (arith, inv.3, c.in_err-each_holds.ensures.ticks))

pub named_on-bind_first-requires : goal.named_on-bind_first-requires
named_on-bind_first-requires t c =
    let xs = map view c.args.parents.now in
    let e = rw c.in-Some.is at c.in_ok-candidates.ensures.answer in
    candidates_places (syntax_at c.args.nodes.now c.args.number) c.args.parents.now (candidate_places xs c.in-Some.candidates) e

pub form_candidates_on-returns-in-Ancestrage-clause-answer : goal.form_candidates_on-returns-in-Ancestrage-clause-answer
form_candidates_on-returns-in-Ancestrage-clause-answer t c =
    let e = rw c.in-Ancestrage.is at c.at.ensures.stands in
    rw e (rw e at c.first_alone.ensures.answer)

pub form_candidates_on-returns-in-Ancestrage-clause-bound : goal.form_candidates_on-returns-in-Ancestrage-clause-bound
form_candidates_on-returns-in-Ancestrage-clause-bound t c =
    let nodes = c.args.nodes.now in
    let f = syntax_at nodes in
    let xs = map view c.args.parents.now in
    let s = Ancestrage (chained (f c.in-Ancestrage.field-0) (map f c.in-Ancestrage.field-1.items)) (f c.in-Ancestrage.field-2) in
    let e = rw c.in-Ancestrage.is at c.at.ensures.stands in
    rw e (added_on nodes c.args.found.now c.first_alone.result c.first_alone.new.found xs (pairs_at_first (holds s) (binds s)) (binds_on s xs) refl (rw e at c.first_alone.ensures.bound))

pub form_candidates_on-returns-in-Ancestrage-clause-ticks : goal.form_candidates_on-returns-in-Ancestrage-clause-ticks
form_candidates_on-returns-in-Ancestrage-clause-ticks t c =
    let xs = map view c.args.parents.now in
    let f = syntax_at c.args.nodes.now in
    let s = Ancestrage (chained (f c.in-Ancestrage.field-0) (map f c.in-Ancestrage.field-1.items)) (f c.in-Ancestrage.field-2) in
    let e = rw c.in-Ancestrage.is at c.at.ensures.stands in
    let h = rw c.tick.ensures at c.first_alone.ensures.ticks in
    rw e (ticks_more c.first_alone.result c.args.steps.now c.first_alone.new.steps (sum_by (calls s) (items_up_to (holds s) xs)) (rw e at h))

pub any_holds-holds_at-requires : goal.any_holds-holds_at-requires
any_holds-holds_at-requires t c =
    let m = above_at c.args.members.now c.loop-member.member-index (omega arith) in
    (omega (arith, m, c.decreases), omega (arith, m, c.requires))

pub first_candidates_on-candidates_on-requires : goal.first_candidates_on-candidates_on-requires
first_candidates_on-candidates_on-requires t c =
    let m = above_at c.args.members.now c.loop-member.member-index (omega arith) in
    (omega (arith, m, c.decreases), omega (arith, m, c.requires))

pub whole_holds_at-returns-clause-bound : goal.whole_holds_at-returns-clause-bound
whole_holds_at-returns-clause-bound t c =
    cut_back c.args.nodes.now c.args.found.now c.form_holds_at.new.found c.truncate.new.self c.in_ok-form_holds_at.ensures.kept (rw c.len-before.ensures at c.truncate.ensures) ∙ sym (append-nil _)

pub candidates_on-returns-clause-bound : goal.candidates_on-returns-clause-bound
candidates_on-returns-clause-bound t c =
    cut_back c.args.nodes.now c.args.found.now c.form_candidates_on.new.found c.truncate.new.self c.in_ok-candidates.ensures.kept (rw c.len-before.ensures at c.truncate.ensures) ∙ sym (append-nil _)

pub form_holds_at-returns-in-Alt-clause-bound : goal.form_holds_at-returns-in-Alt-clause-bound
form_holds_at-returns-in-Alt-clause-bound t c =
    let nodes = c.args.nodes.now in
    let x = view c.args.asked.now in
    let stands = rw c.in-Alt.is at c.at.ensures.stands in
    let ss = members_at nodes c.deref.result.now in
    let e : first_binds ss x ≡ binds (syntax_at nodes c.args.number) x =
    ap (λ (ns : List ℕ). first_binds (members_at nodes ns) x) c.deref.ensures.value ∙ sym (ap (λ (s : Syntax). binds s x) stands) in
    added_at nodes c.args.found.now c.any_holds.result c.any_holds.new.found x (first_binds ss) (binds (syntax_at nodes c.args.number) x) e c.any_holds.ensures.bound

pub form_holds_at-returns-in-Alt-clause-ticks : goal.form_holds_at-returns-in-Alt-clause-ticks
form_holds_at-returns-in-Alt-clause-ticks t c =
    let nodes = c.args.nodes.now in
    let x = view c.args.asked.now in
    let stands = rw c.in-Alt.is at c.at.ensures.stands in
    let ss = members_at nodes c.deref.result.now in
    let e : 1 + first_calls ss x ≡ calls (syntax_at nodes c.args.number) x =
    ap (λ (ns : List ℕ). 1 + first_calls (members_at nodes ns) x) c.deref.ensures.value ∙ sym (ap (λ (s : Syntax). calls s x) stands) in
    rw (← e) (ticks_more c.any_holds.result c.args.steps.now c.any_holds.new.steps (first_calls ss x) (rw c.tick.ensures at c.any_holds.ensures.ticks))

pub whole_holds_at-returns-then-is_simple-clause-bound : goal.whole_holds_at-returns-then-is_simple-clause-bound
whole_holds_at-returns-then-is_simple-clause-bound t c =
    let s = syntax_at c.args.nodes.now c.args.number in
    let x = view c.args.asked.now in
    rw (either c.simple_holds_at.result (binds s x) [] [] (binds-simple s x (c.is_simple.ensures c.if-is_simple.true)) refl) (sym (append-nil _))

pub chain_holds_at-others-preserved-then-not-holds : goal.chain_holds_at-others-preserved-then-not-holds
chain_holds_at-others-preserved-then-not-holds t c =
    let f = syntax_at c.args.nodes.now in
    let x = view c.args.asked.now in
    let ns = c.args.others.now in
    let i = c.others.other-index in
    let s = f c.args.first in
    let inv = c.others.invariant in
    let more = chained_more f s ns i (omega arith) in
    let no : c.others.holds ≡ false = search rules in
    let here = chain_fails (chained s (map f (take i ns))) (f (slice_index_or ns i 0)) _ x c.others.holds more inv.0 no in
    (here.0, omega (arith, here.1, inv.1, c.tick.ensures), inv.2, on_false _ c.others.holds no)

pub chain_holds_at-others-preserved : goal.chain_holds_at-others-preserved
chain_holds_at-others-preserved t c =
    let nodes = c.args.nodes.now in
    let f = syntax_at nodes in
    let x = view c.args.asked.now in
    let ns = c.args.others.now in
    let i = c.others.other-index in
    let s = f c.args.first in
    let so_far = chained s (map f (take i ns)) in
    let r = f (slice_index_or ns i 0) in
    let inv = c.others.invariant in
    let more = chained_more f s ns i (omega arith) in
    let yes : c.others.holds ≡ true = search rules in
    let h = c.in_ok-holds-2.ensures in
    let on = chain_goes_on so_far r _ x c.others.holds more inv.0 yes _ h.answer in
    let bound = rw yes at inv.3 in (
      on.0,
      omega (arith, on.1, inv.1, c.tick.ensures, h.ticks),
      kept_more nodes c.args.found.now c.others.found c.holds_above.new.found _ inv.2 h.bound,
      OnTrue_from c.in_ok-holds-2.holds (AddsAt (slot_names nodes) x c.args.found.now c.holds_above.new.found (binds (chain_at nodes c.args.first (take (i + 1) ns)) x)) (λ e. rw more (bound_under so_far r x (parents x) _ _ _ refl bound (rw e at h.bound))),
    )

pub chain_holds_at-returns-in_err-holds-2-clause-ticks : goal.chain_holds_at-returns-in_err-holds-2-clause-ticks
chain_holds_at-returns-in_err-holds-2-clause-ticks t c =
    let f = syntax_at c.args.nodes.now in
    let x = view c.args.asked.now in
    let ns = c.args.others.now in
    let i = c.others.other-index in
    let s = f c.args.first in
    let so_far = chained s (map f (take i ns)) in
    let r = f (slice_index_or ns i 0) in
    let yes : c.others.holds ≡ true = search rules in
    let on = chain_goes_on so_far r _ x c.others.holds (chained_more f s ns i (omega arith)) c.others.invariant.0 yes _ refl in
    let most = calls_up_to f s ns (i + 1) x in
    MatchResult-from_err c.from_residual-in_err-holds-2.result _ _ (search rules) (λ _. omega (arith, on.1, most, c.others.invariant.1, c.tick.ensures, c.in_err-holds-2.ensures.ticks))

pub chain_holds_at-returns-in_err-holds-clause-ticks : goal.chain_holds_at-returns-in_err-holds-clause-ticks
chain_holds_at-returns-in_err-holds-clause-ticks t c =
    let f = syntax_at c.args.nodes.now in
    let most = calls_up_to f (f c.args.first) c.args.others.now 0 (view c.args.asked.now) in
    MatchResult-from_err c.from_residual.result _ _ (search rules) (λ _. omega (arith, most, c.in_err-holds.ensures.ticks))

pub chain_holds_at-holds_at-requires : goal.chain_holds_at-holds_at-requires
chain_holds_at-holds_at-requires t c = (omega (arith, c.decreases), c.requires.first)

pub chain_holds_at-holds_above-requires : goal.chain_holds_at-holds_above-requires
chain_holds_at-holds_above-requires t c =
    let m = above_at c.args.others.now c.others.other-index (omega arith) in
    (omega (arith, m, c.decreases), omega (arith, m, c.requires.others))

pub negated_holds_at-returns-clause-answer : goal.negated_holds_at-returns-clause-answer
negated_holds_at-returns-clause-answer t c =
    let n = c.args.others in
    c.turned.ensures.answer ∙ ap (turned n) c.in_ok-holds.ensures.answer ∙ sym (holds-negations n (syntax_at c.args.nodes.now c.args.number) (view c.args.asked.now))

pub negated_holds_at-returns-clause-bound : goal.negated_holds_at-returns-clause-bound
negated_holds_at-returns-clause-bound t c =
    let nodes = c.args.nodes.now in
    let olds = c.args.found.now in
    let news = c.holds_at.new.found in
    cut_back nodes olds news c.truncate.new.self (kept_added nodes olds news _ c.in_ok-holds.ensures.bound) (rw c.len-before.ensures at c.truncate.ensures) ∙ sym (append-nil _)

pub negated_holds_at-returns-clause-ticks : goal.negated_holds_at-returns-clause-ticks
negated_holds_at-returns-clause-ticks t c =
    let n = calls-negations c.args.others (syntax_at c.args.nodes.now c.args.number) (view c.args.asked.now) in
    omega (arith, n, c.in_ok-holds.ensures.ticks, c.turned.ensures.ticks)

pub negated_holds_at-returns-in_err-holds-clause-ticks : goal.negated_holds_at-returns-in_err-holds-clause-ticks
negated_holds_at-returns-in_err-holds-clause-ticks t c =
    let n = calls-negations c.args.others (syntax_at c.args.nodes.now c.args.number) (view c.args.asked.now) in
    MatchResult-from_err c.from_residual.result _ _ (search rules) (λ _. omega (arith, n, c.in_err-holds.ensures.ticks))

pub negated_on-returns-then-not-turned-clause-answer : goal.negated_on-returns-then-not-turned-clause-answer
negated_on-returns-then-not-turned-clause-answer t c =
    let n = c.args.others in
    let s = syntax_at c.args.nodes.now c.args.number in
    let xs = map view c.args.parents.now in
    let some = c.is_some.ensures ∙ sym (is_some-map (candidate_places xs) _) ∙ ap is_some c.in_ok-candidates.ensures.answer in
    sym (negated_some n s xs c.turned.result (c.turned.ensures.answer ∙ ap (turned n) some) c.if-not-turned.true)

pub negated_on-returns-clause-answer : goal.negated_on-returns-clause-answer
negated_on-returns-clause-answer t c =
    let n = c.args.others in
    let s = syntax_at c.args.nodes.now c.args.number in
    let xs = map view c.args.parents.now in
    let some = c.is_some.ensures ∙ sym (is_some-map (candidate_places xs) _) ∙ ap is_some c.in_ok-candidates.ensures.answer in
    sym (negated_none n s xs c.turned.result (c.turned.ensures.answer ∙ ap (turned n) some) c.if-not-turned.false)

pub negated_on-returns-then-not-turned-clause-bound : goal.negated_on-returns-then-not-turned-clause-bound
negated_on-returns-then-not-turned-clause-bound t c =
    let nodes = c.args.nodes.now in
    let olds = c.args.found.now in
    let news = c.candidates_on.new.found in
    cut_back nodes olds news c.truncate.new.self (kept_added nodes olds news _ c.in_ok-candidates.ensures.bound) (rw c.len-before.ensures at c.truncate.ensures) ∙ sym (append-nil _)

pub negated_on-returns-clause-bound : goal.negated_on-returns-clause-bound
negated_on-returns-clause-bound t c =
    let nodes = c.args.nodes.now in
    let olds = c.args.found.now in
    let news = c.candidates_on.new.found in
    cut_back nodes olds news c.truncate.new.self (kept_added nodes olds news _ c.in_ok-candidates.ensures.bound) (rw c.len-before.ensures at c.truncate.ensures) ∙ sym (append-nil _)

pub negated_on-returns-then-not-turned-clause-ticks : goal.negated_on-returns-then-not-turned-clause-ticks
negated_on-returns-then-not-turned-clause-ticks t c =
    let n = calls_on-negations c.args.others (syntax_at c.args.nodes.now c.args.number) (map view c.args.parents.now) in
    omega (arith, n, c.in_ok-candidates.ensures.ticks, c.turned.ensures.ticks)

pub negated_on-returns-clause-ticks : goal.negated_on-returns-clause-ticks
negated_on-returns-clause-ticks t c =
    let n = calls_on-negations c.args.others (syntax_at c.args.nodes.now c.args.number) (map view c.args.parents.now) in
    omega (arith, n, c.in_ok-candidates.ensures.ticks, c.turned.ensures.ticks)

pub negated_on-returns-in_err-candidates-clause-ticks : goal.negated_on-returns-in_err-candidates-clause-ticks
negated_on-returns-in_err-candidates-clause-ticks t c =
    let n = calls_on-negations c.args.others (syntax_at c.args.nodes.now c.args.number) (map view c.args.parents.now) in
    MatchResult-from_err c.from_residual.result _ _ (search rules) (λ _. omega (arith, n, c.in_err-candidates.ensures.ticks))

pub form_holds_at-returns-in_ok-holds_above-in-Ancestrage-clause-bound : goal.form_holds_at-returns-in_ok-holds_above-in-Ancestrage-clause-bound
form_holds_at-returns-in_ok-holds_above-in-Ancestrage-clause-bound t c =
    let f = syntax_at c.args.nodes.now in
    let x = view c.args.asked.now in
    let l = chained (f c.in-Ancestrage.child) (map f c.in-Ancestrage.between.items) in
    let r = f c.in-Ancestrage.parent in
    let yes : c.in_ok-holds-in-Ancestrage.holds ≡ true = search rules in
    let stands = rw c.in-Ancestrage.is at c.at.ensures.stands in
    let h = rw (yes, c.deref-in-Ancestrage.ensures.value) at c.in_ok-holds-in-Ancestrage.ensures.bound in
    let k = c.in_ok-holds_above-in-Ancestrage.ensures.bound in
    OnTrue_from c.in_ok-holds_above-in-Ancestrage.field-0 _ (λ e. rw stands (bound_under l r x (parents x) _ _ _ refl h (rw e at k)))

pub holds_above-returns-then-is_simple-clause-bound : goal.holds_above-returns-then-is_simple-clause-bound
holds_above-returns-then-is_simple-clause-bound t c =
    let s = syntax_at c.args.nodes.now c.args.number in
    let xs = parents (view c.args.asked.now) in
    rw (either c.simple_holds_on.result (binds_on s xs) [] [] (binds_on-simple s xs (c.is_simple.ensures c.if-is_simple.true)) refl) (sym (append-nil _))
