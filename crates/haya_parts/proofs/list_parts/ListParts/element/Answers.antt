use Rattle.std.proofs.Common.{subst, ◌≡◌, ◌-◌, length, cond, sym, refl, ap, ◌∙◌}
use Rattle.haya_slices.specs.Scan.{BeginsWith}
use Rattle.haya_parts.proofs.Lists.{element_taken, looked_anew}
use Rattle.haya_parts.specs.declared.list_parts.ListPlace.TheVariants.{Closed, Next}
use Rattle.haya_parts.proofs.list_parts.ListParts.element.Goals as goal
use Rattle.haya_parts.proofs.list_parts.ListParts.element.Goals.{then-first, else-first}

pub returns-after-first-clause-takes : goal.returns-after-first-clause-takes
returns-after-first-clause-takes g c = λ taken parts begins.
    let d = c.args.self.now in
    let held = c.args.held.now in
    let first = c.in-Element.first in
    let place : c.if-first.self ≡ cond first.is_last Closed Next =
    elim c.if-first.branch [
      | then-first w ↦ w.self-is ∙ ap (λ b. cond b Closed Next) (sym w.if-first.true)
      | else-first w ↦ w.self-is ∙ ap (λ b. cond b Closed Next) (sym w.if-first.false)
    ] in
    rw (c.split.ensures.front, c.split.ensures.behind)
    (element_taken g.B.Enclosed.around d taken held parts begins c.new-self.result c.new-self.ensures first.element.now
    first.behind.now c.requires.place first.is_last c.if-first.self
    (length held - length first.behind.now)
    (subst (λ b. BeginsWith b held first.element.now first.is_last first.behind.now)
    c.brackets.ensures c.in-Element.ensures) place refl)

pub returns-in-Nothing-clause-takes : goal.returns-in-Nothing-clause-takes
returns-in-Nothing-clause-takes g c = λ taken parts begins.
    c.none.ensures.takes taken parts
    (looked_anew g.B.Enclosed.around c.args.self.now taken c.args.held.now parts begins
    c.new-self-in-Nothing.result c.new-self-in-Nothing.ensures)
