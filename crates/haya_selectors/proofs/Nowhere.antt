-- A member that holds nowhere.
use Rattle.std.proofs.Common.{◌≡◌, ℕ, zero, suc, Bool, true, false, List, [], ◌∷◌, Option, Some, None, refl, sym, ◌∙◌}
use Rattle.std.specs.List.{AllZip, list_any}
use Rattle.haya_assignment.specs.Assignment.{Table, IsTrueAt, least}
use Rattle.haya_selectors.specs.Tries.{each_holds}
use Rattle.haya_selectors.proofs.LeastTrue.{least_true}

true_somewhere : (row : List Bool) (i : ℕ) → IsTrueAt row i → list_any (λ holds. holds) row ≡ true
true_somewhere [] i e = absurd (cc)
true_somewhere (true ∷ row) i e = refl
true_somewhere (false ∷ row) zero e = absurd (cc)
true_somewhere (false ∷ row) (suc i) e = true_somewhere row i e

each_somewhere : (table : Table) (is : List ℕ) → AllZip IsTrueAt table is → each_holds table ≡ true
each_somewhere [] is h = refl
each_somewhere (row ∷ table) [] h = absurd h
each_somewhere (row ∷ table) (i ∷ is) h = rw (true_somewhere row i h.0, each_somewhere table is h.1) refl

-- where a row is true nowhere, there is no assignment
pub none_where_nowhere : (table : Table) → each_holds table ≡ false → least table ≡ None
none_where_nowhere table e = by (least table) refl where
  by : (o : Option (List ℕ)) → least table ≡ o → o ≡ None
  by None h = refl
  by (Some is) h = absurd (let no : false ≡ true = sym e ∙ each_somewhere table is (least_true table is h) in cc)
