-- A name that a hit binds is one that the selector can bind.
use Rattle.std.proofs.Common.{◌≡◌, ℕ, Bool, true, false, ◌||◌, List, [], ◌∷◌, ◌++◌, Option, None, Some, cond, map, refl, sym, ap, ◌∙◌, subst, true≢false}
use Rattle.std.specs.Prelude.{find, is_some, option_and_then, option_map, position, reverse, slice_get}
use Rattle.std.proofs.lemmas.List.{reverse-append}
use Rattle.std.specs.Option.{option_map_or}
use Rattle.std.specs.Str.{bytes_eq}
use Rattle.std.proofs.lemmas.Slice.Eq.{bytes_eq-Decides}
use Rattle.hayagriva.specs.Binds.{Pairs, binds, binds_on, each_binds, first_binds, first_binds_on, last_of, pair_of_first, pairs_at}
use Rattle.hayagriva.specs.Holds.{candidates, holds}
use Rattle.hayagriva.specs.Places.{at_place}
use Rattle.hayagriva.specs.Query.{IsHit, hit_bound}
use Rattle.hayagriva.specs.Syntax.{Syntax, Wildcard, Entry, Neg, Binding, Attr, Alt, Multi, Ancestrage, Syntaxes, none, more}
use Rattle.hayagriva.specs.Tree.{Tree, at, parents}
use Rattle.hayagriva.specs.declared.query.Hit.{Hit}
use Rattle.haya_command.specs.Bound.{can_bind, some_can_bind}

or_left : (b c : Bool) → b ≡ true → (b || c) ≡ true
or_left true c e = refl
or_left false c e = cc

or_right : (b c : Bool) → c ≡ true → (b || c) ≡ true
or_right true c e = refl
or_right false c e = e

-- the name of each pair passes
abbrev Names : (List ℕ → Bool) → Pairs → Type 0
Names test [] = Unit {0}
Names test (p ∷ ps) = (test p.0 ≡ true) × Names test ps

module _ (test : List ℕ → Bool) where
  both : (ps qs : Pairs) → Names test ps → Names test qs → Names test (ps ++ qs)
  both [] qs h k = k
  both (p ∷ ps) qs h k = (h.0, both ps qs h.1 k)

  led : (i : ℕ) (ps : Pairs) → Names test ps → Names test (map (λ p. (p.0, i ∷ p.1)) ps)
  led i [] h = tt
  led i (p ∷ ps) h = (h.0, led i ps h.1)

  there : (pairs : Tree → Pairs) (o : Option Tree) → ((x : Tree) → Names test (pairs x)) → Names test (option_map_or pairs o [])
  there pairs None h = tt
  there pairs (Some x) h = h x

  at_one : (pairs : Tree → Pairs) (xs : List Tree) (i : ℕ) → ((x : Tree) → Names test (pairs x)) → Names test (pairs_at pairs xs i)
  at_one pairs xs i h = led i (at_place [] pairs xs i) (there pairs (slice_get xs i) h)

  at_first : (pairs : Tree → Pairs) (xs : List Tree) (o : Option ℕ) → ((x : Tree) → Names test (pairs x)) → Names test (option_map_or (pairs_at pairs xs) o [])
  at_first pairs xs None h = tt
  at_first pairs xs (Some i) h = at_one pairs xs i h

  for_each : (pairs : List ℕ → Pairs) (o : Option (List ℕ)) → ((is : List ℕ) → Names test (pairs is)) → Names test (option_map_or pairs o [])
  for_each pairs None h = tt
  for_each pairs (Some is) h = h is

  of_first : (n : List ℕ) (o : Option (List ℕ)) → test n ≡ true → Names test (pair_of_first n o)
  of_first n None h = tt
  of_first n (Some []) h = tt
  of_first n (Some (i ∷ is)) h = (h, tt)

  either : (c : Bool) (ps qs : Pairs) → Names test ps → Names test qs → Names test (cond c ps qs)
  either true ps qs h k = h
  either false ps qs h k = k

weaker : (test wide : List ℕ → Bool) → ((n : List ℕ) → test n ≡ true → wide n ≡ true) → (ps : Pairs) → Names test ps → Names wide ps
weaker test wide w [] h = tt
weaker test wide w (p ∷ ps) h = (w p.0 h.0, weaker test wide w ps h.1)

same_name : (n : List ℕ) → bytes_eq n n ≡ true
same_name n = (bytes_eq-Decides n n).1 refl

abbrev By : Syntax → List ℕ → Bool
By s n = can_bind n s

abbrev BySome : Syntaxes → List ℕ → Bool
BySome ss n = some_can_bind n ss

mutual
  named : (s : Syntax) (x : Tree) → Names (By s) (binds s x)
  named Wildcard x = tt
  named (Entry t) x = tt
  named (Neg s) x = tt
  named (Binding n s) x =
      both (By (Binding n s)) (binds s x) ((n, []) ∷ []) (weaker (By s) (By (Binding n s)) (λ m h. or_right _ _ h) (binds s x) (named s x)) (or_left _ _ (same_name n), tt)
  named (Attr s names) x = named s x
  named (Alt ss) x = first_named ss x
  named (Multi ss) x = tt
  named (Ancestrage l r) x =
      both (By (Ancestrage l r)) (binds l x) (binds_on r (parents x)) (weaker (By l) (By (Ancestrage l r)) (λ m h. or_right _ _ h) (binds l x) (named l x))
      (weaker (By r) (By (Ancestrage l r)) (λ m h. or_left _ _ h) (binds_on r (parents x)) (named_on r (parents x)))

  first_named : (ss : Syntaxes) (x : Tree) → Names (BySome ss) (first_binds ss x)
  first_named none x = tt
  first_named (more s ss) x =
      either (BySome (more s ss)) (holds s x) (binds s x) (first_binds ss x) (weaker (By s) (BySome (more s ss)) (λ m h. or_left _ _ h) (binds s x) (named s x))
      (weaker (BySome ss) (BySome (more s ss)) (λ m h. or_right _ _ h) (first_binds ss x) (first_named ss x))

  named_on : (s : Syntax) (xs : List Tree) → Names (By s) (binds_on s xs)
  named_on Wildcard xs = tt
  named_on (Entry t) xs = tt
  named_on (Neg s) xs = tt
  named_on (Binding n s) xs =
      both (By (Binding n s)) (binds_on s xs) (pair_of_first n (candidates s xs)) (weaker (By s) (By (Binding n s)) (λ m h. or_right _ _ h) (binds_on s xs) (named_on s xs))
      (of_first (By (Binding n s)) n (candidates s xs) (or_left _ _ (same_name n)))
  named_on (Attr s names) xs = named_on s xs
  named_on (Alt ss) xs = first_named_on ss xs
  named_on (Multi ss) xs = for_each (BySome ss) (each_binds ss xs) (candidates (Multi ss) xs) (λ is. each_named ss xs is)
  named_on (Ancestrage l r) xs =
      at_first (By (Ancestrage l r)) (λ x. binds l x ++ binds_on r (parents x)) xs (position (holds (Ancestrage l r)) xs)
      (λ x.
      both (By (Ancestrage l r)) (binds l x) (binds_on r (parents x)) (weaker (By l) (By (Ancestrage l r)) (λ m h. or_right _ _ h) (binds l x) (named l x))
      (weaker (By r) (By (Ancestrage l r)) (λ m h. or_left _ _ h) (binds_on r (parents x)) (named_on r (parents x))))

  first_named_on : (ss : Syntaxes) (xs : List Tree) → Names (BySome ss) (first_binds_on ss xs)
  first_named_on none xs = tt
  first_named_on (more s ss) xs =
      either (BySome (more s ss)) (is_some (candidates s xs)) (binds_on s xs) (first_binds_on ss xs) (weaker (By s) (BySome (more s ss)) (λ m h. or_left _ _ h) (binds_on s xs) (named_on s xs))
      (weaker (BySome ss) (BySome (more s ss)) (λ m h. or_right _ _ h) (first_binds_on ss xs) (first_named_on ss xs))

  each_named : (ss : Syntaxes) (xs : List Tree) (is : List ℕ) → Names (BySome ss) (each_binds ss xs is)
  each_named none xs is = tt
  each_named (more s ss) xs [] = tt
  each_named (more s ss) xs (i ∷ is) =
      both (BySome (more s ss)) (pairs_at (binds s) xs i) (each_binds ss xs is)
      (weaker (By s) (BySome (more s ss)) (λ m h. or_left _ _ h) (pairs_at (binds s) xs i) (at_one (By s) (binds s) xs i (λ x. named s x)))
      (weaker (BySome ss) (BySome (more s ss)) (λ m h. or_right _ _ h) (each_binds ss xs is) (each_named ss xs is))

-- ---- a name that can't be bound isn't
module _ (test : List ℕ → Bool) where
  -- by induction on the pairs, whose reverse has the first behind the others
  turned : (ps : Pairs) → Names test ps → Names test (reverse ps)
  turned [] h = tt
  turned (p ∷ ps) h = subst (Names test) (sym (reverse-append (p ∷ []) ps)) (both test (reverse ps) (p ∷ []) (turned ps h.1) (h.0, tt))

  module _ (n : List ℕ) (not : test n ≡ false) where
    others : (m : List ℕ) → test m ≡ true → bytes_eq m n ≡ false
    others m h = by (bytes_eq m n) refl
      where
        by : (c : Bool) → bytes_eq m n ≡ c → c ≡ false
        by true same = absurd (true≢false (sym h ∙ ap test ((bytes_eq-Decides m n).0 same) ∙ not))
        by false same = refl

    none_found : (ps : Pairs) → Names test ps → find (λ p. bytes_eq p.0 n) ps ≡ None
    none_found [] h = refl
    none_found (p ∷ ps) h = rw (others p.0 h.0) (none_found ps h.1)

    no_last : (ps : Pairs) → Names test ps → last_of n ps ≡ None
    no_last ps h = ap (option_map (λ p. p.1)) (none_found (reverse ps) (turned ps h))

-- a hit binds no name that its selector can't bind
pub never_bound : (s : Syntax) (x : Tree) (hit : Hit) (n : List ℕ) → IsHit s x hit → can_bind n s ≡ false → hit_bound hit n ≡ None
never_bound s x hit n is not = is.bindings.entries n ∙ ap (option_and_then (at x)) (no_last (By s) n not (binds s x) (named s x))
