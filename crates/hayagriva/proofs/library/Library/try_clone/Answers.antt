use Rattle.std.proofs.Common.{◌≡◌, ◌++◌, ◌∷◌, ap, sym, ◌∙◌, subst}
use Rattle.haya_entry.specs.Tree.{view}
use Rattle.hayagriva.specs.Library.{AreDistinct}
use Rattle.hayagriva.proofs.Pushes.{push-new}
use Rattle.hayagriva.proofs.library.Library.try_clone.Goals as goal

pub loop-entry-preserved : goal.loop-entry-preserved
loop-entry-preserved c =
    let so : c.loop-entry.copy ++ view c.in-Some.entry.now ∷ c.next.new.self ≡ c.args.self.now = ap (λ ts. c.loop-entry.copy ++ ts) (sym c.in-Some.ensures.steps) ∙ c.loop-entry.invariant in
    ap (λ ts. ts ++ c.next.new.self) c.in_ok-push.ensures.ok
    ∙ push-new c.loop-entry.copy c.next.new.self (view c.in-Some.entry.now) (subst AreDistinct (sym so) c.iter-entry-items.ensures.distinct) ∙ so
