use Rattle.std.proofs.Common.{◌∙◌}
use Rattle.std.specs.Bool.{one_answer}
use Rattle.hayagriva.specs.Equality.{library_eq}
use Rattle.hayagriva.specs.EqualityLaws.{library_eq-Decides}
use Rattle.hayagriva.proofs.Equal.{maps-Decides}
use Rattle.hayagriva.proofs.library.LibraryPartialEq.eq.Goals as goal

pub returns : goal.returns
returns c =
    c.eq.ensures
    ∙ one_answer _ _ (maps-Decides c.self.inside.stored c.other.inside.stored c.self.invariant c.other.invariant) (library_eq-Decides _ _)
    ∙ (λ i. library_eq (c.self.view_is i) (c.other.view_is i))
