-- A library in parts: entries are pushed behind those that share no key with them.
use Rattle.std.proofs.Common.{◌≡◌, ℕ, suc, Bool, true, false, ◌&&◌, ◌||◌, List, [], ◌∷◌, ◌++◌, map, refl, sym, ap, ◌∙◌, subst, append_assoc, append-nil, arith}
use Rattle.std.specs.Prelude.{All, filter, fold, if◌then◌else◌}
use Rattle.std.specs.List.{AllByRecursion, AllPairs, AllZip, IsDistinct, flat_map, list_any}
use Rattle.std.proofs.lemmas.Map.Keys.{IsDistinct-head, IsDistinct-tail}
use Rattle.std.specs.Str.{bytes_eq}
use Rattle.std.proofs.Math.Bool.{and-false, or-false, or_assoc}
use Rattle.std.proofs.lemmas.Bool.{or_parts}
use Rattle.std.proofs.lemmas.List.{map-append}
use Rattle.std.proofs.lemmas.List.Elements.{All-head, All-tail, filter-append}
use Rattle.std.proofs.lemmas.List.Folds.{list_any-append}
use Rattle.std.proofs.lemmas.List.Sums.{fold-append}
use Rattle.std.proofs.lemmas.Slice.Eq.{bytes_eq-Decides}
use Rattle.haya_entry.specs.Tree.{Tree}
use Rattle.haya_selectors.specs.Holds.{holds}
use Rattle.haya_selectors.specs.Syntax.{Syntax}
use Rattle.hayagriva.specs.Library.{key_of, has_key, with_replacement, push, from_entries, AreDistinct}
use Rattle.hayagriva.specs.Parts.{AreApart}
use Rattle.hayagriva.specs.Query.{AreHits, IsHit}
use Rattle.hayagriva.specs.declared.query.Hit.{Hit}
use Rattle.hayagriva.proofs.Maps.{distinct_keys}
use Rattle.hayagriva.proofs.Pushes.{push-new}

-- ---- entries with distinct keys
push_each : List Tree → List Tree → List Tree
push_each done ts = fold (λ done t. push t done) done ts

push_each-new : (done ts : List Tree) → AreDistinct (done ++ ts) → push_each done ts ≡ done ++ ts
unfolding push_each
push_each-new done [] d = sym (append-nil done)
push_each-new done (t ∷ ts) d =
    let goes_last = push-new done ts t d in
    push_each-new (push t done) ts (subst AreDistinct (sym goes_last) d) ∙ goes_last

pub from_entries-distinct : (a : List Tree) → AreDistinct a → from_entries a ≡ a
unfolding push_each
from_entries-distinct a d = push_each-new [] a d

-- ---- what it is to have a key
abbrev has : List ℕ → List Tree → Bool
has key a = list_any (has_key key) a

or_known : (x y : Bool) → (y ≡ true → x ≡ true) → x ≡ (x || y)
or_known true y h = refl
or_known false true h = h refl
or_known false false h = refl

has-own : (t : Tree) (a : List Tree) → has (key_of t) (t ∷ a) ≡ true
has-own t a = rw ((bytes_eq-Decides (key_of t) (key_of t)).1 refl) refl

same_key : (key : List ℕ) (t : Tree) → has_key key t ≡ true → key ≡ key_of t
same_key key t = (bytes_eq-Decides key (key_of t)).0

has-with_replacement : (key : List ℕ) (t : Tree) (a : List Tree) → has key (with_replacement t a) ≡ has key a
has-with_replacement key t [] = refl
has-with_replacement key t (u ∷ a) = by (has-with_replacement key t a) (has_key (key_of t) u) refl
  where
    by : has key (with_replacement t a) ≡ has key a → (b : Bool) → has_key (key_of t) u ≡ b → has key (with_replacement t (u ∷ a)) ≡ has key (u ∷ a)
    by rest true h = rw (h, rest) (ap (λ k. bytes_eq key k || has key a) (same_key (key_of t) u h))
    by rest false h = rw (h, rest) refl

has-push : (key : List ℕ) (t : Tree) (a : List Tree) → has key (push t a) ≡ (has key a || has_key key t)
has-push key t a = by (has (key_of t) a) refl
  where
    by : (b : Bool) → has (key_of t) a ≡ b → has key (push t a) ≡ (has key a || has_key key t)
    by true h =
        rw (h, has-with_replacement key t a)
        (or_known (has key a) (has_key key t) (λ same. ap (λ k. has k a) (same_key key t same) ∙ h))
    by false h = rw h (list_any-append (has_key key) a (t ∷ []) ∙ ap (λ b. has key a || b) (or-false (has_key key t)))

has-push_each : (key : List ℕ) (done ts : List Tree) → has key (push_each done ts) ≡ (has key done || has key ts)
unfolding push_each
has-push_each key done [] = sym (or-false (has key done))
has-push_each key done (t ∷ ts) =
    has-push_each key (push t done) ts ∙ ap (λ b. b || has key ts) (has-push key t done) ∙ or_assoc (has key done) (has_key key t) (has key ts)

has-from_entries : (key : List ℕ) (a : List Tree) → has key (from_entries a) ≡ has key a
unfolding push_each
has-from_entries key a = has-push_each key [] a

-- ---- entries that share no key with the first ones
apart_first : (x y : Bool) → (x && y) ≡ false → y ≡ true → x ≡ false
apart_first false y h k = refl
apart_first true y h k = cc

apart_later : (x y z : Bool) → (x && (y || z)) ≡ false → (x && z) ≡ false
apart_later false y z h = refl
apart_later true true z h = cc
apart_later true false z h = h

apart_both : (x y z : Bool) → (x && y) ≡ false → (x && z) ≡ false → (x && (y || z)) ≡ false
apart_both false y z h k = refl
apart_both true true z h k = cc
apart_both true false z h k = k

with_replacement-new : (t : Tree) (a : List Tree) → has (key_of t) a ≡ false → with_replacement t a ≡ a
with_replacement-new t [] h = refl
with_replacement-new t (u ∷ a) h =
    let other = or_parts (has_key (key_of t) u) (has (key_of t) a) h in rw (other.0, with_replacement-new t a other.1) refl

push-behind : (t : Tree) (a b : List Tree) → has (key_of t) a ≡ false → push t (a ++ b) ≡ a ++ push t b
push-behind t a b new = rw (list_any-append (has_key (key_of t)) a b, new) (by (has (key_of t) b) refl)
  where
    by : (c : Bool) → has (key_of t) b ≡ c → (if has (key_of t) b then with_replacement t (a ++ b) else (a ++ b) ++ t ∷ []) ≡ a ++ push t b
    by true h = rw h (map-append (λ u. if has_key (key_of t) u then t else u) a b ∙ ap (λ l. l ++ with_replacement t b) (with_replacement-new t a new))
    by false h = rw h (append_assoc a b (t ∷ []))

push_each-behind : (a b ts : List Tree) → AreApart a ts → push_each (a ++ b) ts ≡ a ++ push_each b ts
unfolding push_each
push_each-behind a b [] h = refl
push_each-behind a b (t ∷ ts) h =
    ap (λ l. push_each l ts) (push-behind t a b (apart_first (has (key_of t) a) (has (key_of t) (t ∷ ts)) (h (key_of t)) (has-own t ts)))
    ∙ push_each-behind a (push t b) ts (λ key. apart_later (has key a) (has_key key t) (has key ts) (h key))

pub from_entries-parts : (a b : List Tree) → AreApart a b → from_entries (a ++ b) ≡ from_entries a ++ from_entries b
unfolding push_each
from_entries-parts a b h =
    fold-append (λ done t. push t done) [] a b ∙ ap (λ done. push_each done b) (sym (append-nil (from_entries a)))
    ∙ push_each-behind (from_entries a) [] b (λ key. rw (has-from_entries key a) (h key))

-- libraries have the keys of the entries that made them
pub AreApart-entries : (a b : List Tree) → AreApart (from_entries a) (from_entries b) → AreApart a b
AreApart-entries a b h = λ key. rw (has-from_entries key a, has-from_entries key b) at (h key)

-- ---- a list of entries with distinct keys, cut in two
lacks : (key : List ℕ) (b : List Tree) → AllByRecursion (λ k. bytes_eq key k ≡ false) (map key_of b) → has key b ≡ false
lacks key [] h = refl
lacks key (t ∷ b) h = rw (h.0, lacks key b h.1) refl

lacks_behind : (key : List ℕ) (a b : List Tree) → AllByRecursion (λ k. bytes_eq key k ≡ false) (map key_of (a ++ b)) → has key b ≡ false
lacks_behind key [] b h = lacks key b h
lacks_behind key (t ∷ a) b h = lacks_behind key a b h.1

apart_more : (x y z : Bool) → (x ≡ true → z ≡ false) → (y && z) ≡ false → ((x || y) && z) ≡ false
apart_more true y z h k = h refl
apart_more false y z h k = k

pub apart-distinct_keys : (a b : List Tree) → IsDistinct bytes_eq (map key_of (a ++ b)) → AreApart a b
apart-distinct_keys [] b d = λ key. refl
apart-distinct_keys (t ∷ a) b d = λ key.
    let none = lacks_behind (key_of t) a b (IsDistinct-head bytes_eq (key_of t) (map key_of (a ++ b)) d) in
    apart_more (has_key key t) (has key a) (has key b) (λ same. ap (λ k. has k b) (same_key key t same) ∙ none)
    (apart-distinct_keys a b (IsDistinct-tail bytes_eq (key_of t) (map key_of (a ++ b)) d) key)

pub AreApart-distinct : (a b : List Tree) → AreDistinct (a ++ b) → AreApart a b
AreApart-distinct a b d = apart-distinct_keys a b (distinct_keys (a ++ b) d)

-- ---- any number of parts
pub AreApart-all : (a : List Tree) (parts : List (List Tree)) → All (AreApart a) parts → AreApart a (flat_map (λ b. b) parts)
AreApart-all a [] h = λ key. and-false (has key a)
AreApart-all a (b ∷ parts) h = λ key.
    rw (list_any-append (has_key key) b (flat_map (λ c. c) parts))
    (apart_both (has key a) (has key b) (has key (flat_map (λ c. c) parts)) (All-head (AreApart a) b parts h key)
    (AreApart-all a parts (All-tail (AreApart a) b parts h) key))

pub from_entries-many : (parts : List (List Tree)) → AllPairs AreApart parts → from_entries (flat_map (λ a. a) parts) ≡ flat_map from_entries parts
from_entries-many [] h = refl
from_entries-many (a ∷ parts) h =
    from_entries-parts a (flat_map (λ b. b) parts) (AreApart-all a parts (λ k d within. h 0 (suc k) d (omega arith) (omega arith)))
    ∙ ap (λ l. from_entries a ++ l) (from_entries-many parts (λ i j d before within. h (suc i) (suc j) d (omega arith) (omega arith)))

-- ---- what is picked of the parts
pub AllZip-append : {A B : Type 0} (R : A → B → Type 0) (xs more_xs : List A) (ys more_ys : List B) → AllZip R xs ys → AllZip R more_xs more_ys
    → AllZip R (xs ++ more_xs) (ys ++ more_ys)
AllZip-append R [] more_xs [] more_ys h k = k
AllZip-append R [] more_xs (y ∷ ys) more_ys h k = absurd h
AllZip-append R (x ∷ xs) more_xs [] more_ys h k = absurd h
AllZip-append R (x ∷ xs) more_xs (y ∷ ys) more_ys h k = (h.0, AllZip-append R xs more_xs ys more_ys h.1 k)

module _ (s : Syntax) where
  pub picked-parts : (a b : List Tree) → AreApart a b
      → filter (holds s) (from_entries (a ++ b)) ≡ filter (holds s) (from_entries a) ++ filter (holds s) (from_entries b)
  picked-parts a b h = ap (filter (holds s)) (from_entries-parts a b h) ∙ filter-append (holds s) (from_entries a) (from_entries b)

  filter-flat_map : (parts : List (List Tree)) → filter (holds s) (flat_map from_entries parts) ≡ flat_map (λ a. filter (holds s) (from_entries a)) parts
  filter-flat_map [] = refl
  filter-flat_map (a ∷ parts) =
      filter-append (holds s) (from_entries a) (flat_map from_entries parts) ∙ ap (λ l. filter (holds s) (from_entries a) ++ l) (filter-flat_map parts)

  pub picked-many : (parts : List (List Tree)) → AllPairs AreApart parts
      → filter (holds s) (from_entries (flat_map (λ a. a) parts)) ≡ flat_map (λ a. filter (holds s) (from_entries a)) parts
  picked-many parts h = ap (filter (holds s)) (from_entries-many parts h) ∙ filter-flat_map parts

  pub hits-parts : (a b : List Tree) (first second : List Hit) → AreApart a b → AreHits s (from_entries a) first → AreHits s (from_entries b) second
      → AreHits s (from_entries (a ++ b)) (first ++ second)
  hits-parts a b first second h f g =
      rw (picked-parts a b h) (AllZip-append (IsHit s) (filter (holds s) (from_entries a)) (filter (holds s) (from_entries b)) first second f g)
