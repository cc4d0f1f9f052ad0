-- Libraries that are written, or for which there is no memory.
use Rattle.std.proofs.Common.{ℕ, List, Option, None, Some, inr, refl}
use Rattle.std.specs.Prelude.{IsSome}
use Rattle.hayagriva_c.specs.Writing.{PutsIf}
use Rattle.hayagriva_c.specs.declared.fault.Written.{Written}

-- there is a text, and no memory for it
pub none_put : (text : Option (List ℕ)) (written : Written) → IsSome text → PutsIf text 6 written written
none_put (Some text) written is = inr (refl, refl)
none_put None written is = absurd (cc)
