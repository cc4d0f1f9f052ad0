-- Signs that stand for themselves, one after another.
use Rattle.std.proofs.Common.{◌≡◌, ℕ, suc, ◌+◌, ◌≤◌, List, [], ◌∷◌, length, drop, true, false, cond, refl, ap, ◌∙◌, arith}
use Rattle.haya_yaml_text.specs.Turns.{goes_on, plain_length}
use Rattle.haya_yaml_text.specs.declared.scalar.Style.{Style}

pub goes_on_some : (style : Style) (text : List ℕ) → goes_on style text ≡ true → 1 ≤ length text
goes_on_some style [] e = absurd (grind (arith, e))
goes_on_some style (c ∷ cs) e = grind arith

pub plain_more : (style : Style) (text : List ℕ) → goes_on style text ≡ true → plain_length style text ≡ 1 + plain_length style (drop 1 text)
unfolding plain_length
plain_more style [] e = absurd (grind (arith, e))
plain_more style (c ∷ cs) e = ap (λ b. cond b (suc (plain_length style cs)) 0) e ∙ grind arith

pub plain_stop : (style : Style) (text : List ℕ) → goes_on style text ≡ false → plain_length style text ≡ 0
unfolding plain_length
plain_stop style [] e = refl
plain_stop style (c ∷ cs) e = ap (λ b. cond b (suc (plain_length style cs)) 0) e
