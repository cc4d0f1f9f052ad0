-- Equality of lists of selectors, from an index on.
use Rattle.std.proofs.Common.{◌≡◌, ◌≢◌, ◌<◌, ◌≤◌, ◌+◌, ◌∙◌, ℕ, suc, Bool, false, ◌&&◌, ◌==◌, List, [], ◌∷◌, Result, Ok, Err, IfOk, length, drop, get_or, refl, ap, add-one, arith}
use Rattle.std.proofs.Math.Seq.{drop-cons}
use Rattle.std.proofs.lemmas.Bool.Decides.{nat_tests}
use Rattle.haya_selectors.specs.declared.selector.Selector.{Selector}
use Rattle.haya_selectors.specs.Equality.{selector_eq, syntaxes_eq}
use Rattle.haya_selectors.specs.Syntax.{members_of}

pub unequal_lengths : (xs ys : List Selector) → length xs ≢ length ys → syntaxes_eq (members_of xs) (members_of ys) ≡ false
unequal_lengths [] [] h = absurd (h refl)
unequal_lengths [] (y ∷ ys) h = refl
unequal_lengths (x ∷ xs) [] h = refl
unequal_lengths (x ∷ xs) (y ∷ ys) h = rw (unequal_lengths xs ys (λ e. h (ap suc e))) refl

-- from one index on, by the next
pub eq_from : (xs ys : List Selector) (i : ℕ) (d e : Selector) → i < length xs → i < length ys
    → syntaxes_eq (members_of (drop i xs)) (members_of (drop i ys))
    ≡ (syntaxes_eq (members_of (drop (i + 1) xs)) (members_of (drop (i + 1) ys)) && selector_eq (get_or xs i d) (get_or ys i e))
eq_from xs ys i d e h k = rw (add-one i, drop-cons xs i d h, drop-cons ys i e k) refl

-- no selectors beside others
pub none_left : (xs ys : List Selector) (b : Bool) → length xs ≡ 0 → b ≡ (length ys == 0) → b ≡ syntaxes_eq (members_of xs) (members_of ys)
none_left [] [] b e h = h
none_left [] (y ∷ ys) b e h = let no : (suc (length ys) == 0) ≡ false = grind (arith, nat_tests) in h ∙ no
none_left (x ∷ xs) ys b e h = absurd (omega (arith, e))

-- what is no deeper than members is less deep than the whole
pub deeper : {X Y : Type 0} (depth : X → ℕ) (r : Result X Y) (most whole : ℕ) → most < whole → IfOk r (λ x. depth x ≤ most) → IfOk r (λ x. depth x < whole)
deeper depth (Ok x) most whole h k = omega (arith, h, k)
deeper depth (Err y) most whole h k = tt
