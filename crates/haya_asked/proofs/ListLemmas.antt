-- Words that are unknown in one of the parts of a text.
use Rattle.std.proofs.Common.{◌<◌, ℕ, List, Option, None, Some, get_or, length, map, sym, subst}
use Rattle.std.proofs.lemmas.List.{get_or-map, length-map}
use Rattle.std.specs.Borrow.{Bor}
use Rattle.std.specs.Option.{IfSome}
use Rattle.std.specs.Prelude.{Any}

-- what is said of a word by one part is said by some part
pub among : (Says : List ℕ → List ℕ → Type 0) (o : Option (List ℕ)) (parts : List (Bor (List ℕ))) (d : Bor (List ℕ)) (i : ℕ) → i < length parts
    → IfSome o (Says (get_or parts i d).now) → IfSome o (λ word. Any (λ part. Says part word) (map (λ p. p.now) parts))
among Says None parts d i within h = h
among Says (Some word) parts d i within h =
    (i, (get_or parts i d).now, subst (λ n. i < n) (sym (length-map parts (λ p. p.now))) within, get_or-map (λ p. p.now) parts i d (get_or parts i d).now within, h)
