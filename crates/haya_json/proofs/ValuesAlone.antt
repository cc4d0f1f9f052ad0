-- A value that nothing follows.
use Rattle.std.proofs.Common.{◌≡◌, ℕ, List, [], ◌∷◌, Option, None, Some, option_and_then, sym, ap, ◌∙◌}
use Rattle.json.specs.Json.{Json, if_last}
use Rattle.json.specs.Token.{Token}
use Rattle.haya_json_elements.specs.Elements.{IsItem}

-- the value that is read, or another where none is
first_or : Json → Option (Json × List Token) → Json
first_or j None = j
first_or j (Some p) = p.0

-- what is read of the same is one
pub one_read : (r : Option (Json × List Token)) (i j : Json) → r ≡ Some (i, []) → r ≡ Some (j, []) → i ≡ j
unfolding first_or
one_read r i j a b = ap (first_or i) (sym a ∙ b)

-- what is read is all
pub alone : (r : Option (Json × List Token)) (j : Json) → option_and_then (λ p. if_last p.0 p.1) r ≡ Some j → r ≡ Some (j, [])
alone None j h = cc
alone (Some (i, [])) j h = let same : i ≡ j = cc in ap (λ k. Some (k, [])) same
alone (Some (i, t ∷ ts)) j h = cc

-- a line is one item at most
pub one_item : (line : List ℕ) (i j : Json) → IsItem line i → IsItem line j → i ≡ j
one_item line i j a b = one_read _ i j a b
