-- Why hits aren't printed in lines.
use Rattle.std.proofs.Common.{◌≡◌, inl, inr, ℕ, zero, suc, ◌<◌, Bool, List, [], ◌∷◌, length, map, sym, ap, subst, arith}
use Rattle.std.specs.Prelude.{Any, slice_index_or}
use Rattle.hayagriva.specs.Query.{hit_entry}
use Rattle.hayagriva.specs.declared.query.Hit.{Hit}
use Rattle.haya_printing.specs.LeftOut.{IsPrintable}
use Rattle.haya_printing.specs.declared.error.LinesError.{LinesError}
use Rattle.haya_command.specs.Printed.{IsLinesFault}
use Rattle.haya_command.specs.declared.form.Form.{Form}

-- it holds of the only element
only : {X : Type 0} (P : X → Type 0) (x : X) → Any P (x ∷ []) → P x
only P x a = at a.0 a.2 a.3
  where
    at : (k : ℕ) → k < 1 → slice_index_or (x ∷ []) k a.1 ≡ a.1 → P x
    at zero within same = subst P (sym same) a.4
    at (suc k) within same = absurd (omega (arith, within))

-- it holds of what the element at a place is mapped to
some_mapped : {X Y : Type 0} (P : Y → Type 0) (f : X → Y) (xs : List X) (i : ℕ) (x : X) → i < length xs → x ≡ slice_index_or xs i x → P (f x) → Any P (map f xs)
some_mapped P f [] i x within same p = absurd (omega (arith, within))
some_mapped P f (y ∷ ys) zero x within same p = (0, f x, omega arith, ap f (sym same), p)
some_mapped P f (y ∷ ys) (suc i) x within same p =
    let a = some_mapped P f ys i x (omega (arith, within)) same p in
    (suc a.0, a.1, omega (arith, a.2), a.3, a.4)

-- a fault of the hit at a place is one of all
pub fault_at : (strict : Bool) (form : Form) (hits : List Hit) (i : ℕ) (hit : Hit) → i < length hits → hit ≡ slice_index_or hits i hit → (e : LinesError)
    → IsLinesFault strict form (hit_entry hit ∷ []) e → IsLinesFault strict form (map hit_entry hits) e
fault_at strict form hits i hit within same e (inl memory) = inl memory
fault_at strict form hits i hit within same e (inr h) =
    inr (h.0, h.1, some_mapped (λ t. ¬ IsPrintable t) hit_entry hits i hit within same (only (λ t. ¬ IsPrintable t) (hit_entry hit) h.2))
