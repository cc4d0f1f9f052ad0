-- Where the paths of bindings lead, and that candidates are places of the list.
use Rattle.std.proofs.Common.{◌≡◌, ℕ, ◌<◌, Bool, true, false, cond, List, [], ◌∷◌, ◌++◌, length, map, refl, sym, ap, subst, append_assoc, arith, Option, Some, None}
use Rattle.std.specs.Prelude.{⊤, All, IfSome, filter, option_and_then, option_map, is_some, position, slice_get}
use Rattle.std.specs.Option.{option_map_or, option_or}
use Rattle.std.proofs.lemmas.List.{length-map, map-append}
use Rattle.std.proofs.lemmas.List.Elements.{All-nil, All-cons, All-head, All-tail, All-append, All-filter, All-map, All-weaker}
use Rattle.std.proofs.lemmas.List.FromFn.{length-range_with_len, get_or-range_with_len}
use Rattle.std.proofs.lemmas.List.Quantifiers.{position-Some}
use Rattle.haya_entry.specs.declared.entry.Entry.{Entry as EntryData}
use Rattle.haya_entry.specs.Names.{is_of_type, has_all}
use Rattle.haya_entry.specs.Tree.{Tree, view, parents, at, at_list}
use Rattle.haya_selectors.specs.Binds.{Pairs, pairs_at_first, pairs_at, pair_of_first, binds, binds_on, first_binds_on, each_binds}
use Rattle.haya_selectors.specs.Evaluation.{pair_entries}
use Rattle.haya_selectors.specs.Holds.{holds, candidates, first_candidates, first_place, kept_places, some_places, table_of}
use Rattle.haya_selectors.specs.Places.{places, at_place}
use Rattle.haya_selectors.specs.Syntax.{Syntax, Wildcard, Entry, Neg, Binding, Attr, Alt, Multi, Ancestrage, Syntaxes, none, more}
use Rattle.haya_selectors.proofs.Choices.{first_some, least_beside, least_beside-cons, not_taken-true}

-- the pairs of the entry at a place, from the list and from that entry
pub resolved_led : (f : Tree → Pairs) (xs : List Tree) (i : ℕ) (x : Tree) → slice_get xs i ≡ Some x → pair_entries (at_list xs) (pairs_at f xs i) ≡ pair_entries (at x) (f x)
resolved_led f xs i x e = rw e (each (f x)) where
  each : (pairs : Pairs) → pair_entries (at_list xs) (map (λ p. (p.0, i ∷ p.1)) pairs) ≡ pair_entries (at x) pairs
  each [] = refl
  each (p ∷ pairs) = rw (e, each pairs) refl

-- a path from a list begins with a place
abbrev IsLed : List ℕ × List ℕ → Type 0
IsLed (name, []) = ⊥
IsLed (name, i ∷ path) = ⊤

led_led : (f : Tree → Pairs) (xs : List Tree) (i : ℕ) → All IsLed (pairs_at f xs i)
led_led f xs i = All-map IsLed (λ p. (p.0, i ∷ p.1)) (at_place [] f xs i) (λ k d h. tt)

led_first_bound : (n : List ℕ) (o : Option (List ℕ)) → All IsLed (pair_of_first n o)
led_first_bound n None = All-nil IsLed
led_first_bound n (Some []) = All-nil IsLed
led_first_bound n (Some (i ∷ is)) = All-cons IsLed (n, i ∷ []) [] tt (All-nil IsLed)

led_option : {A : Type 0} (f : A → Pairs) (o : Option A) → ((x : A) → All IsLed (f x)) → All IsLed (option_map_or f o [])
led_option f None h = All-nil IsLed
led_option f (Some x) h = h x

mutual
  led_binds : (s : Syntax) (xs : List Tree) → All IsLed (binds_on s xs)
  led_binds Wildcard xs = All-nil IsLed
  led_binds (Entry t) xs = All-nil IsLed
  led_binds (Neg s) xs = All-nil IsLed
  led_binds (Binding n s) xs = All-append IsLed (binds_on s xs) (pair_of_first n (candidates s xs)) (led_binds s xs) (led_first_bound n (candidates s xs))
  led_binds (Attr s names) xs = led_binds s xs
  led_binds (Alt ss) xs = led_first_binds ss xs
  led_binds (Multi ss) xs = led_option (each_binds ss xs) (candidates (Multi ss) xs) (led_each ss xs)
  led_binds (Ancestrage l r) xs = led_option (pairs_at (binds (Ancestrage l r)) xs) (position (holds (Ancestrage l r)) xs) (led_led (binds (Ancestrage l r)) xs)

  led_first_binds : (ss : Syntaxes) (xs : List Tree) → All IsLed (first_binds_on ss xs)
  led_first_binds none xs = All-nil IsLed
  led_first_binds (more s ss) xs =
      elim (is_some (candidates s xs)) as (λ b. All IsLed (cond b (binds_on s xs) (first_binds_on ss xs))) [ true ↦ led_binds s xs | false ↦ led_first_binds ss xs ]

  led_each : (ss : Syntaxes) (xs : List Tree) (is : List ℕ) → All IsLed (each_binds ss xs is)
  led_each none xs is = All-nil IsLed
  led_each (more s ss) xs [] = All-nil IsLed
  led_each (more s ss) xs (i ∷ is) = All-append IsLed (pairs_at (binds s) xs i) (each_binds ss xs is) (led_led (binds s) xs i) (led_each ss xs is)

same_led : (x : Tree) (pairs : Pairs) → All IsLed pairs → pair_entries (at_list (parents x)) pairs ≡ pair_entries (at x) pairs
same_led x [] h = refl
same_led x ((name, []) ∷ pairs) h = absurd (All-head IsLed (name, []) pairs h)
same_led x ((name, i ∷ path) ∷ pairs) h = rw (same_led x pairs (All-tail IsLed (name, i ∷ path) pairs h)) refl

-- paths of a list of parents lead to the same entries from the entry that has these parents
pub resolved_on : (s : Syntax) (x : Tree) → pair_entries (at_list (parents x)) (binds_on s (parents x)) ≡ pair_entries (at x) (binds_on s (parents x))
resolved_on s x = same_led x (binds_on s (parents x)) (led_binds s (parents x))

-- every number is a place of the list
abbrev In : List Tree → List ℕ → Type 0
In xs is = All (λ i. i < length xs) is

places_in : (xs : List Tree) → In xs (places xs)
places_in xs k d h =
    let l = length-range_with_len 0 (length xs) in
    let e = get_or-range_with_len 0 (length xs) k d (omega arith) in
    omega arith

some_in : (xs : List Tree) (is : List ℕ) → In xs is → IfSome (some_places is) (In xs)
some_in xs [] h = tt
some_in xs (i ∷ is) h = h

alone_in : (xs : List Tree) (o : Option ℕ) → ((i : ℕ) → o ≡ Some i → i < length xs) → IfSome (option_map (λ i. i ∷ []) o) (In xs)
alone_in xs None h = tt
alone_in xs (Some i) h = All-cons (λ j. j < length xs) i [] (h i refl) (All-nil _)

first_in : (test : Tree → Bool) (xs : List Tree) → IfSome (first_place test xs) (In xs)
first_in test [] = tt
first_in test (x ∷ xs) = alone_in (x ∷ xs) (position test (x ∷ xs)) (λ i e. (position-Some test (x ∷ xs) i x e).0)

kept_in : (names : List (List ℕ)) (xs : List Tree) (o : Option (List ℕ)) → IfSome o (In xs) → IfSome (option_and_then (kept_places names xs) o) (In xs)
kept_in names xs None h = tt
kept_in names xs (Some []) h = All-nil _
kept_in names xs (Some (i ∷ is)) h =
    some_in xs (filter (at_place false (has_all names) xs) (i ∷ is)) (All-filter (at_place false (has_all names) xs) (λ i. i < length xs) (i ∷ is) h)

first_some_in : (xs : List Tree) (g : ℕ → Option (List ℕ)) → ((k : ℕ) → IfSome (g k) (In xs)) → (is : List ℕ) → In xs is → IfSome (first_some (λ k. option_map (λ js. k ∷ js) (g k)) is) (In xs)
first_some_in xs g each [] h = tt
first_some_in xs g each (k ∷ is) h =
    (elim (g k) as (λ o. IfSome o (In xs) → IfSome (option_or (option_map (λ js. k ∷ js) o) (first_some (λ k. option_map (λ js. k ∷ js) (g k)) is)) (In xs)) [
      | None ↦ λ here. first_some_in xs g each is (All-tail (λ i. i < length xs) k is h)
      | Some js ↦ λ here. All-cons (λ i. i < length xs) k js (All-head (λ i. i < length xs) k is h) here
    ]) (each k)

least_in : (ss : Syntaxes) (xs : List Tree) (taken : List ℕ) → IfSome (least_beside taken (table_of ss xs)) (In xs)
least_in none xs taken = All-nil _
least_in (more s ss) xs taken =
    rw (least_beside-cons taken (map (holds s) xs) (table_of ss xs), not_taken-true (holds s) xs taken)
    (first_some_in xs (λ k. least_beside (k ∷ taken) (table_of ss xs)) (λ k. least_in ss xs (k ∷ taken)) _
    (All-filter (at_place false (holds s) xs) (λ i. i < length xs) _ (All-filter _ (λ i. i < length xs) (places xs) (places_in xs))))

mutual
  -- candidates are places of the list
  pub candidates_in : (s : Syntax) (xs : List Tree) → IfSome (candidates s xs) (In xs)
  candidates_in Wildcard xs = some_in xs (places xs) (places_in xs)
  candidates_in (Entry t) xs = first_in (is_of_type t) xs
  candidates_in (Neg s) xs = elim (is_some (candidates s xs)) as (λ b. IfSome (cond b None (Some [])) (In xs)) [ true ↦ tt | false ↦ All-nil _ ]
  candidates_in (Binding n s) xs = elim (candidates s xs) as (λ o. IfSome (option_map {T = List ℕ} (λ _. []) o) (In xs)) [ None ↦ tt | Some is ↦ All-nil _ ]
  candidates_in (Attr s names) xs = kept_in names xs (candidates s xs) (candidates_in s xs)
  candidates_in (Alt ss) xs = first_candidates_in ss xs
  candidates_in (Multi ss) xs = least_in ss xs []
  candidates_in (Ancestrage l r) xs = first_in (holds (Ancestrage l r)) xs

  first_candidates_in : (ss : Syntaxes) (xs : List Tree) → IfSome (first_candidates ss xs) (In xs)
  first_candidates_in none xs = tt
  first_candidates_in (more s ss) xs =
      (elim (candidates s xs) as (λ o. IfSome o (In xs) → IfSome (option_or o (first_candidates ss xs)) (In xs)) [
        | None ↦ λ h. first_candidates_in ss xs
        | Some is ↦ λ h. h
      ]) (candidates_in s xs)

-- candidates on the parents of an entry are places of its parents
pub candidates_places : (s : Syntax) (ps : List EntryData) (is : List ℕ) → Some is ≡ candidates s (map view ps) → All (λ i. i < length ps) is
candidates_places s ps is e =
    All-weaker (λ i. i < length (map view ps)) (λ i. i < length ps) (λ i h. omega (arith, length-map ps view)) is (subst (λ o. IfSome o (In (map view ps))) (sym e) (candidates_in s (map view ps)))

-- where an entry binds nothing, nothing is bound at its place
pub led_nothing : (test : Tree → Bool) (xs : List Tree) → pairs_at_first test (λ _. []) xs ≡ []
led_nothing test xs = each (position test xs) where
  nothing : (o : Option Tree) → option_map_or {T = Tree} {U = Pairs} (λ _. []) o [] ≡ []
  nothing None = refl
  nothing (Some x) = refl

  each : (o : Option ℕ) → option_map_or (pairs_at (λ _. []) xs) o [] ≡ []
  each None = refl
  each (Some i) = ap (map (λ p. (p.0, i ∷ p.1))) (nothing (slice_get xs i))

-- bindings that are added one after another
pub bound_under : (l r : Syntax) (x : Tree) (xs : List Tree) (olds mids news : List (List ℕ × Option Tree)) → xs ≡ parents x
    → mids ≡ olds ++ pair_entries (at x) (binds l x) → news ≡ mids ++ pair_entries (at_list xs) (binds_on r xs)
    → news ≡ olds ++ pair_entries (at x) (binds (Ancestrage l r) x)
bound_under l r x xs olds mids news p h k = rw (k, h, p, resolved_on r x, map-append, append_assoc) refl
