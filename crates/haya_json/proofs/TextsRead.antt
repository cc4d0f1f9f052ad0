-- What is read of a value whose texts are UTF-8.
use Rattle.std.proofs.Common.{◌≡◌, ℕ, ◌+◌, Bool, true, false, List, [], ◌∷◌, Option, None, Some, Result, Ok, Err, refl, ap, cond, IsUtf8}
use Rattle.std.specs.Prelude.{IfSome, ok_or}
use Rattle.std.specs.List.{AllByRecursion}
use Rattle.std.specs.Str.{bytes_eq}
use Rattle.json.specs.Json as json
use Rattle.json.specs.Json.{Json, Items, Members}
use Rattle.json.specs.Find.{get, get_member, is_null, later_or}
use Rattle.haya_json.specs.Refusal.{Refusal, here, within, and_then, to_member, to_item}
use Rattle.haya_json.specs.Parts.{text_in, bytes_of, read_by, unless_null, member_of, needed_in, needed, optional_in, optional, items_of, one_or_many}
use Rattle.haya_json.specs.declared.fault.Why.{Why}

-- each text and number is UTF-8
abbrev mutual
  pub HasTexts : Json → Type 0
  HasTexts json.null = Unit {0}
  HasTexts (json.boolean b) = Unit {0}
  HasTexts (json.number s) = IsUtf8 s
  HasTexts (json.string s) = IsUtf8 s
  HasTexts (json.array js) = ItemsHaveTexts js
  HasTexts (json.object ms) = MembersHaveTexts ms

  pub ItemsHaveTexts : Items → Type 0
  ItemsHaveTexts json.no_items = Unit {0}
  ItemsHaveTexts (json.item j js) = HasTexts j × ItemsHaveTexts js

  pub MembersHaveTexts : Members → Type 0
  MembersHaveTexts json.no_members = Unit {0}
  MembersHaveTexts (json.member k j ms) = HasTexts j × MembersHaveTexts ms

-- ---- results

module _ {T U E : Type 0} where
  pub record Both (r : Result T E) (f : T → Result U E) (u : U) : Type 0 where
    pub value : T
    pub first : r ≡ Ok value
    pub then : f value ≡ Ok u

  pub both_ok : (r : Result T E) (f : T → Result U E) (u : U) → and_then r f ≡ Ok u → Both r f u
  both_ok (Ok t) f u h = record { value = t; first = refl; then = h }
  both_ok (Err e) f u h = cc

pub ok_same : {T E : Type 0} {a b : T} → (let r : Result T E = Ok a in r ≡ Ok b) → a ≡ b
ok_same h = cc

module _ {T : Type 0} where
  pub within_ok : (step : _) (r : Result T Refusal) (t : T) → within step r ≡ Ok t → r ≡ Ok t
  within_ok step (Ok x) t h = h
  within_ok step (Err e) t h = cc

  pub given : (o : Option T) (e : Refusal) (t : T) → ok_or o e ≡ Ok t → o ≡ Some t
  given None e t h = cc
  given (Some x) e t h = ap Some (ok_same h)

-- ---- texts and members

pub text_utf8 : (j : Json) (s : List ℕ) → HasTexts j → text_in j ≡ Some s → IsUtf8 s
text_utf8 json.null s u h = cc
text_utf8 (json.boolean b) s u h = cc
text_utf8 (json.number t) s u h = let same : t ≡ s = cc in rw (← same) u
text_utf8 (json.string t) s u h = let same : t ≡ s = cc in rw (← same) u
text_utf8 (json.array js) s u h = cc
text_utf8 (json.object ms) s u h = cc

-- the text that is read, and what it is read as
pub record ByText {V : Type 0} (reads : List ℕ → Option V) (v : V) : Type 0 where
  pub text : List ℕ
  pub utf8 : IsUtf8 text
  pub read : reads text ≡ Some v

pub text_read : (j : Json) (s : List ℕ) → HasTexts j → bytes_of j ≡ Ok s → IsUtf8 s
text_read j s u h = text_utf8 j s u (given (text_in j) _ s h)

pub by_text : {V : Type 0} (why : Why) (reads : List ℕ → Option V) (j : Json) (v : V) → HasTexts j → read_by why reads j ≡ Ok v → ByText reads v
by_text why reads j v u h =
    let b = both_ok (bytes_of j) _ v h in
    record { text = b.value; utf8 = text_read j b.value u b.first; read = given (reads b.value) (here why) v b.then }

found : (name : List ℕ) (ms : Members) → MembersHaveTexts ms → IfSome (get_member name ms) HasTexts
found name json.no_members u = tt
found name (json.member k j ms) u = by (get_member name ms) (bytes_eq k name) (found name ms u.1)
  where
    by : (o : Option Json) (b : Bool) → IfSome o HasTexts → IfSome (later_or o (cond b (Some j) None)) HasTexts
    by None true h = u.0
    by None false h = tt
    by (Some l) b h = h

pub member_texts : (name : List ℕ) (j : Json) → HasTexts j → IfSome (member_of name j) HasTexts
member_texts name j u = by (get name j) (at j u)
  where
    at : (j : Json) → HasTexts j → IfSome (get name j) HasTexts
    at json.null u = tt
    at (json.boolean b) u = tt
    at (json.number s) u = tt
    at (json.string s) u = tt
    at (json.array js) u = tt
    at (json.object ms) u = found name ms u

    by : (o : Option Json) → IfSome o HasTexts → IfSome (unless_null o) HasTexts
    by None h = tt
    by (Some m) h = null_or (is_null m)
      where
        null_or : (b : Bool) → IfSome (cond b None (Some m)) HasTexts
        null_or true = tt
        null_or false = h

module _ {V : Type 0} (P : V → Type 0) (read : Json → Result V Refusal) (each : (j : Json) (v : V) → HasTexts j → read j ≡ Ok v → P v) where
  pub needed_read : (name : List ℕ) (j : Json) (v : V) → HasTexts j → needed name read j ≡ Ok v → P v
  needed_read name j v u h = by (member_of name j) (member_texts name j u) (within_ok (to_member name) (needed_in read (member_of name j)) v h)
    where
      by : (o : Option Json) → IfSome o HasTexts → needed_in read o ≡ Ok v → P v
      by None t k = cc
      by (Some m) t k = each m v t k

  pub optional_read : (name : List ℕ) (j : Json) (o : Option V) → HasTexts j → optional name read j ≡ Ok o → IfSome o P
  optional_read name j o u h = by (member_of name j) (member_texts name j u) (within_ok (to_member name) (optional_in read (member_of name j)) o h)
    where
      by : (m : Option Json) → IfSome m HasTexts → optional_in read m ≡ Ok o → IfSome o P
      by None t k = let none : None ≡ o = ok_same k in rw (← none) tt
      by (Some m) t k =
          let b = both_ok (read m) _ o k in
          let some : Some b.value ≡ o = ok_same b.then in
          rw (← some) (each m b.value t b.first)

  items_read : (n : ℕ) (js : Items) (vs : List V) → ItemsHaveTexts js → items_of read n js ≡ Ok vs → AllByRecursion P vs
  items_read n json.no_items vs u h = let none : [] ≡ vs = ok_same h in rw (← none) tt
  items_read n (json.item j js) vs u h =
      let first = both_ok (within (to_item n) (read j)) _ vs h in
      let more = both_ok (items_of read (n + 1) js) _ vs first.then in
      let all : first.value ∷ more.value ≡ vs = ok_same more.then in
      rw (← all) (each j first.value u.0 (within_ok (to_item n) (read j) first.value first.first), items_read (n + 1) js more.value u.1 more.first)

  alone : (j : Json) (vs : List V) → HasTexts j → and_then (read j) (λ v. Ok (v ∷ [])) ≡ Ok vs → AllByRecursion P vs
  alone j vs u h =
      let b = both_ok (read j) _ vs h in
      let one : b.value ∷ [] ≡ vs = ok_same b.then in
      rw (← one) (each j b.value u b.first, tt)

  pub many_read : (j : Json) (vs : List V) → HasTexts j → one_or_many read j ≡ Ok vs → AllByRecursion P vs
  many_read json.null vs u h = alone json.null vs u h
  many_read (json.boolean b) vs u h = alone (json.boolean b) vs u h
  many_read (json.number s) vs u h = alone (json.number s) vs u h
  many_read (json.string s) vs u h = alone (json.string s) vs u h
  many_read (json.array js) vs u h = items_read 0 js vs u h
  many_read (json.object ms) vs u h = alone (json.object ms) vs u h
