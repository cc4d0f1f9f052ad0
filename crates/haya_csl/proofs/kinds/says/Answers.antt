use Rattle.std.proofs.Common.{◌≡◌, ◌<◌, ℕ, true, List, [], ◌∷◌, length, refl, sym, ◌∙◌, arith}
use Rattle.std.proofs.lemmas.Bool.Decides.{nat_tests}
use Rattle.haya_csl.specs.Kinds.{begins_with, says}
use Rattle.haya_csl.proofs.kinds.says.Goals as goal

-- a word that a text begins with appears in it
says_here : (word text : List ℕ) → 0 < length text → begins_with word text ≡ true → says word text ≡ true
says_here word [] some here = absurd (omega (arith, some))
says_here word (b ∷ bs) some here = rw here refl

pub returns-then-begins_with : goal.returns-then-begins_with
returns-then-begins_with c =
    let some : 0 < length c.starts.rest.now = grind (arith, nat_tests, c.starts-test.true, c.is_empty.ensures) in
    let here : begins_with c.args.word.now c.starts.rest.now ≡ true = rw c.as_bytes.ensures.value at (sym c.if-begins_with.ensures) in
    sym (c.starts.invariant ∙ says_here c.args.word.now c.starts.rest.now some here)
