-- Members with the same row.
use Rattle.std.proofs.Common.{◌≡◌, ◌<◌, ℕ, Bool, true, false, List, [], Vec, length, get_or, refl, ap}
use Rattle.std.specs.Bool.{Decides}
use Rattle.std.proofs.lemmas.List.{get_or-map}
use Rattle.std.proofs.lemmas.Slice.Eq.{slice_eq-Decides}
use mathlib.Core.Bool.{beq}
use lib.Pointwise.{pointwise}
use Rattle.haya_assignment.specs.Assignment.{rows}
use Rattle.haya_assignment.specs.Placed.{accepts}

bools_decide : (a b : Bool) → Decides (beq a b) (a ≡ b)
bools_decide true true = (λ _. refl, λ _. refl)
bools_decide true false = (λ e. cc, λ e. cc)
bools_decide false true = (λ e. cc, λ e. cc)
bools_decide false false = (λ _. refl, λ _. refl)

-- members whose rows are equal are accepted at the same positions
pub same_rows : {Z : Type 0} (table : List (Vec Bool Z)) (i k : ℕ) (v w : Vec Bool Z) (b : Bool) → v ≡ get_or table i v → w ≡ get_or table k w → i < length table → k < length table
    → b ≡ true → b ≡ pointwise beq v.items w.items → (j : ℕ) → accepts (rows table) i j ≡ accepts (rows table) k j
unfolding accepts
same_rows table i k v w b at_i at_k in_i in_k e is j =
    let same : v.items ≡ w.items = (slice_eq-Decides bools_decide v.items w.items b is).0 e in
    rw (get_or-map (λ row. row.items) table i v [] in_i, get_or-map (λ row. row.items) table k w [] in_k, ← at_i, ← at_k) (ap (λ row. get_or row j false) same)
