-- A push of a new key.
use Rattle.std.proofs.Common.{◌≡◌, ℕ, false, List, [], ◌∷◌, ◌++◌, map, refl, append_assoc}
use Rattle.std.specs.List.{AllByRecursion, IsDistinct, list_any}
use Rattle.std.specs.Str.{bytes_eq}
use Rattle.std.specs.Cmp.Lexicographic.{nat_list_eq_equiv}
use Rattle.std.proofs.lemmas.Map.Keys.{IsDistinct-head, IsDistinct-tail}
use Rattle.haya_entry.specs.Tree.{Tree}
use Rattle.hayagriva.specs.Library.{key_of, has_key, push, AreDistinct}
use Rattle.hayagriva.proofs.Maps.{distinct_keys}

lacks_there : (k : List ℕ) (ts us : List Tree) (t : Tree) → AllByRecursion (λ y. bytes_eq k y ≡ false) (map key_of (ts ++ t ∷ us)) → bytes_eq k (key_of t) ≡ false
lacks_there k [] us t h = h.0
lacks_there k (x ∷ ts) us t h = lacks_there k ts us t h.1

new_key : (ts us : List Tree) (t : Tree) → IsDistinct bytes_eq (map key_of (ts ++ t ∷ us)) → list_any (has_key (key_of t)) ts ≡ false
new_key [] us t d = refl
new_key (x ∷ ts) us t d =
    rw (nat_list_eq_equiv.symm (key_of t) (key_of x), lacks_there (key_of x) ts us t (IsDistinct-head bytes_eq (key_of x) (map key_of (ts ++ t ∷ us)) d))
    (new_key ts us t (IsDistinct-tail bytes_eq (key_of x) (map key_of (ts ++ t ∷ us)) d))

-- goes last
pub push-new : (ts us : List Tree) (t : Tree) → AreDistinct (ts ++ t ∷ us) → push t ts ++ us ≡ ts ++ t ∷ us
push-new ts us t d = rw (new_key ts us t (distinct_keys (ts ++ t ∷ us) d)) (append_assoc ts (t ∷ []) us)
