-- The items of a list, an item at a time.
use Rattle.std.proofs.Common.{◌≡◌, ℕ, zero, suc, ◌-◌, ◌<◌, ◌≤◌, List, [], ◌∷◌, length, Option, Some, None, option_and_then, refl, sym, ap, ◌∙◌, arith}
use Rattle.json.specs.Token.{Token}
use Rattle.json.specs.Lex.{tokens}
use Rattle.json.specs.Json.{Json, array, Items, item, Parse, parse_map, after_end_array, items_step, items, value, if_last, document}
use Rattle.json.proofs.Grammar.{left, skip_value-shorter, items_end, items_fail, items_more, value-begin_array}
use Rattle.haya_csl.specs.Turns.{items_left, first_and_left, list_document}

-- each value takes a token
abbrev Takes : Parse Json → Type 0
Takes p = (ts r : List Token) → left (p ts) ≡ Some r → length r < length ts

module _ (p : Parse Json) (takes : Takes p) where
  ended : (m : ℕ) → items p m [] ≡ None
  unfolding items
  ended zero = refl
  ended (suc m) = by (p []) refl
    where
      by : (r : Option (Json × List Token)) → p [] ≡ r → option_and_then (λ q. parse_map (item q.0) (items p m q.1)) r ≡ None
      by None e = refl
      by (Some q) e = let less = takes [] q.1 (rw e refl) in let never : ⊥ = omega (arith, less) in absurd never

  turn_enough : (n m : ℕ) (ts : List Token) → ((r : List Token) → length r < length ts → items p n r ≡ items p m r) → items p (suc n) ts ≡ items p (suc m) ts
  unfolding items
  turn_enough n m ts same = by (after_end_array ts)
    where
      then : (r : Option (Json × List Token)) → p ts ≡ r → option_and_then (λ q. parse_map (item q.0) (items p n q.1)) r ≡ option_and_then (λ q. parse_map (item q.0) (items p m q.1)) r
      then None e = refl
      then (Some q) e = ap (parse_map (item q.0)) (same q.1 (takes ts q.1 (rw e refl)))

      by : (o : Option (List Token)) → items_step p (items p n) ts o ≡ items_step p (items p m) ts o
      by (Some rest) = refl
      by None = then (p ts) refl

  -- As many turns as there are tokens are enough.
  pub items_enough : (n m : ℕ) (ts : List Token) → length ts ≤ n → length ts ≤ m → items p n ts ≡ items p m ts
  unfolding items
  items_enough zero m [] h k = sym (ended m)
  items_enough zero m (t ∷ ts) h k = let never : ⊥ = omega arith in absurd never
  items_enough (suc n) zero [] h k = ended (suc n)
  items_enough (suc n) zero (t ∷ ts) h k = let never : ⊥ = omega arith in absurd never
  items_enough (suc n) (suc m) ts h k = turn_enough n m ts (λ r less. items_enough n m r (omega arith) (omega arith))

-- ---- the items of a list

pub no_more_items : (ts r : List Token) → after_end_array ts ≡ Some r → items_left ts ≡ first_and_left None r
no_more_items ts r e = items_end (value 127) (length ts) ts r (omega arith) e

pub no_item : (ts : List Token) → after_end_array ts ≡ None → value 127 ts ≡ None → items_left ts ≡ None
no_item ts e f = items_fail (value 127) (length ts) ts e f

pub one_more_item : (ts r : List Token) (j : Json) → after_end_array ts ≡ None → value 127 ts ≡ Some (j, r) → items_left ts ≡ first_and_left (Some j) r
one_more_item ts r j e f =
    let less : length r < length ts = skip_value-shorter 127 ts r (rw f refl) in
    items_more (value 127) (length ts) ts r j (omega arith) e f ∙ ap (parse_map (item j)) (items_enough (value 127) (skip_value-shorter 127) (length ts - 1) (length r) r (omega arith) (omega arith))

-- ---- a text that is a list

array_document : (r : Option (Items × List Token)) → option_and_then (λ p. if_last p.0 p.1) (parse_map array r) ≡ list_document r
array_document None = refl
array_document (Some l) = refl

pub document-list : (text : List ℕ) (ts : List Token) → tokens text ≡ Token.begin_array ∷ ts → document text ≡ list_document (items_left ts)
document-list text ts e =
    ap (λ all. option_and_then (λ p. if_last p.0 p.1) (value 128 all)) e
    ∙ ap (option_and_then (λ p. if_last p.0 p.1)) (value-begin_array 128 ts (omega arith))
    ∙ array_document (items_left ts)
