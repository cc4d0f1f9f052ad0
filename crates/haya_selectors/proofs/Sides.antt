-- The selectors of a side around another.
use Rattle.std.proofs.Common.{◌≡◌, List, [], ◌∷◌, ◌++◌, Bor, refl, ap}
use Rattle.haya_selectors.specs.declared.selector.Selector.{Selector}
use Rattle.haya_selectors.specs.Side.{with_first, wrapped}
use Rattle.haya_selectors.specs.Syntax.{Syntax, syntax}

pub wrapped_push : (ss : List (Bor Selector)) (s : Bor Selector) (x : Syntax) → wrapped (ss ++ s ∷ []) x ≡ wrapped ss (with_first (syntax s.now) x)
wrapped_push [] s x = refl
wrapped_push (t ∷ ts) s x = ap (with_first (syntax t.now)) (wrapped_push ts s x)
