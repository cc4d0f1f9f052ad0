use Rattle.std.proofs.Common.{refl, subst, sym}
use Rattle.hayagriva_c.specs.Changing.{RemoveGives}
use Rattle.hayagriva_c.specs.declared.content.Content.TheVariants.{Library}
use Rattle.hayagriva_c.proofs.changes.library_remove.Goals as goal

pub returns-in-Library : goal.returns-in-Library
returns-in-Library c =
    subst (λ old. RemoveGives c.args.key.now old (Library c.remove.new.shelf) c.remove.result) (sym c.in-Library.is)
    (c.remove.new.shelf, refl, c.remove.ensures)
