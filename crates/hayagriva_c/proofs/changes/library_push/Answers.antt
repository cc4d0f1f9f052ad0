use Rattle.std.proofs.Common.{refl, subst, sym}
use Rattle.hayagriva_c.specs.Changing.{PushGives}
use Rattle.hayagriva_c.specs.declared.content.Content.TheVariants.{Library}
use Rattle.hayagriva_c.proofs.changes.library_push.Goals as goal

pub returns-in-Library : goal.returns-in-Library
returns-in-Library c =
    subst (λ old. PushGives c.args.bytes.now old (Library c.push.new.shelf) c.push.result c.args.fault.now c.push.new.fault) (sym c.in-Library.is)
    (c.push.new.shelf, refl, c.push.ensures)
