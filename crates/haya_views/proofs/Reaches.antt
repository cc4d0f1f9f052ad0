-- What a path leads to is among an entry and its ancestors in order.
use Rattle.std.proofs.Common.{◌≡◌, ◌+◌, ℕ, suc, List, [], ◌∷◌, None, Some, inl, inr, sym, ap, ◌∙◌}
use Rattle.std.specs.Prelude.{Option, option_and_then, slice_get}
use Rattle.std.proofs.lemmas.Option.{slice_get_cases}
use Rattle.haya_entry.specs.Tree.{Tree, at, parents}
use Rattle.haya_selectors.specs.Binds.{binds, bound_to, last_of}
use Rattle.haya_selectors.specs.Syntax.{Syntax}
use Rattle.haya_views.specs.InOrder.{in_order}
use Rattle.haya_views.proofs.Orders.{in_order_is, past, reached}

pub path_reaches : (path : List ℕ) (x u : Tree) → at x path ≡ Some u → (k : ℕ) × (slice_get (in_order x) k ≡ Some u)
path_reaches [] x u e = (0, ap (λ l. slice_get l 0) (in_order_is x) ∙ e)
path_reaches (i ∷ path) x u e = elim (slice_get_cases (parents x) i).1 [
  | inl w ↦
      (let there : at w.0 path ≡ Some u = sym (ap (option_and_then (λ p. at p path)) w.2) ∙ e in
      let k = path_reaches path w.0 u there in
      (suc (past (parents x) i + k.0), ap (λ l. slice_get l (suc (past (parents x) i + k.0))) (in_order_is x) ∙ reached (parents x) i k.0 w.0 u w.2 k.1))
  | inr gone ↦ absurd (let no : None ≡ Some u = sym (ap (option_and_then (λ p. at p path)) gone.1) ∙ e in cc)
]

by_path : (x u : Tree) (path : Option (List ℕ)) → option_and_then (at x) path ≡ Some u → (k : ℕ) × (slice_get (in_order x) k ≡ Some u)
by_path x u None e = absurd (cc)
by_path x u (Some path) e = path_reaches path x u e

-- what a name is bound to
pub bound_reaches : (s : Syntax) (x u : Tree) (name : List ℕ) → bound_to s x name ≡ Some u → (k : ℕ) × (slice_get (in_order x) k ≡ Some u)
bound_reaches s x u name e = by_path x u (last_of name (binds s x)) e
