-- Lists with one more item at the end.
use Rattle.std.proofs.Common.{◌≡◌, ◌&&◌, Bool, true, false, List, [], ◌∷◌, ◌++◌, if◌then◌else◌, refl}
use Rattle.haya_bibtex_names.specs.Parts.{is_empty, without_end}

pub end_dropped : {X : Type 0} (p : X → Bool) (xs : List X) (x : X) → p x ≡ true →
    without_end p (xs ++ x ∷ []) ≡ without_end p xs
end_dropped p [] x h = rw h refl
end_dropped p (y ∷ ys) x h = rw (end_dropped p ys x h) refl

full : {X : Type 0} (xs : List X) (x : X) → is_empty (xs ++ x ∷ []) ≡ false
full [] x = refl
full (y ∷ ys) x = refl

pub end_kept : {X : Type 0} (p : X → Bool) (xs : List X) (x : X) → p x ≡ false →
    without_end p (xs ++ x ∷ []) ≡ xs ++ x ∷ []
end_kept p [] x h = rw h refl
end_kept p (y ∷ ys) x h =
    rw (end_kept p ys x h, full ys x)
    (elim (p y) as (λ b. (if b && false then [] else y ∷ (ys ++ x ∷ [])) ≡ y ∷ (ys ++ x ∷ [])) [ true ↦ refl | false ↦ refl ])
