use Rattle.std.proofs.Common.{◌≡◌, ◌+◌, ◌++◌, ◌∷◌, [], length, arith, sym, subst, ◌∙◌, ap, List, ℕ}
use Rattle.std.specs.Prelude.{Contains}
use Rattle.std.proofs.lemmas.List.{length_push}
use Rattle.std.proofs.lemmas.List.Elements.{Contains-push}
use Rattle.haya_bibtex_inherited.specs.Search.{IsSound, graph_of}
use Rattle.haya_bibtex_inherited.proofs.Cutting.{popped_front}
use Rattle.haya_bibtex_inherited.proofs.Left.{all_below, leave_sound}
use Rattle.haya_bibtex_inherited.proofs.Working.{nodes_work-leave}
use Rattle.haya_bibtex_inherited.proofs.search.step.Goals as goal

pub leave-requires-clause-start : goal.leave-requires-clause-start
leave-requires-clause-start c =
    let l = c.requires.knows.1.begun c.args.start (subst (λ (v : List ℕ). Contains v c.args.start) (sym c.requires.last.1) (Contains-push c.requires.last.0 c.args.start)) in
    omega (arith, l)

pub returns-in_ok-leave-in-None-clause-knows : goal.returns-in_ok-leave-in-None-clause-knows
returns-in_ok-leave-in-None-clause-knows c =
    let e = c.in_ok-leave-in-None.ensures in
    let s = c.args.search.now in
    let g = graph_of c.args.graph.now in
    let front = c.requires.last.0 in
    let popped = popped_front s.starts.items c.pop.new.self.items front c.args.start _ (omega (arith, s.starts.ok)) c.requires.last.1 c.pop.ensures.rest in
    let was : IsSound g s.places.items s.way.items (front ++ c.args.start ∷ []) s.arrows.items s.order.items =
    subst (λ (v : List ℕ). IsSound g s.places.items s.way.items v s.arrows.items s.order.items) c.requires.last.1 c.requires.knows.1 in
    rw (e.way, e.starts, popped, e.arrows, c.in-None.ensures.0, e.order) (
      e.as_many ∙ c.requires.knows.0,
      leave_sound g s.places.items c.leave.new.search.places.items s.way.items front s.arrows.items s.order.items c.args.start was
          (all_below s.arrows.items c.args.start was.climbing c.in-None.ensures.1) e.places,
    )

pub returns-in_ok-leave-in-None-clause-work : goal.returns-in_ok-leave-in-None-clause-work
returns-in_ok-leave-in-None-clause-work c =
    let e = c.in_ok-leave-in-None.ensures in
    let s = c.args.search.now in
    let g = graph_of c.args.graph.now in
    let front = c.requires.last.0 in
    let popped = popped_front s.starts.items c.pop.new.self.items front c.args.start _ (omega (arith, s.starts.ok)) c.requires.last.1 c.pop.ensures.rest in
    let same = nodes_work-leave g s.places.items c.leave.new.search.places.items c.args.start (length s.order.items) e.as_many e.places in
    let one : length s.starts.items ≡ length front + 1 = ap length c.requires.last.1 ∙ length_push front c.args.start in
    rw (e.starts, popped, e.arrows, c.in-None.ensures.0) (omega (arith, same, one))
