-- The last pair of a name, in lists that are mapped or grow.
use Rattle.std.proofs.Common.{Bor, ◌≡◌, ℕ, Bool, cond, List, [], ◌∷◌, ◌++◌, Option, Some, None, map, refl, sym, ap, ◌∙◌}
use Rattle.std.specs.Prelude.{find, is_some, option_and_then, option_map, reverse}
use Rattle.std.specs.Str.{bytes_eq}
use Rattle.std.proofs.lemmas.List.{reverse-append}
use Rattle.std.proofs.lemmas.Simd.{map-map}
use Rattle.indexmap.proofs.ReorderLemmas.{map-reverse}
use Rattle.haya_entry.specs.declared.entry.Entry.{Entry}
use Rattle.haya_entry.specs.Tree.{Tree, view, at}
use Rattle.haya_selectors.specs.Binds.{binds, bound_to, is_bound, last_of}
use Rattle.haya_selectors.specs.Evaluation.{EntryPairs, named_pairs, pair_entries, pairs_view}
use Rattle.haya_selectors.specs.Compiled.{name_of}
use Rattle.haya_selectors.specs.Syntax.{Syntax}
use Rattle.haya_selectors.proofs.Options.{is_some-map, option_map-cond, option_map-map}

find-map : {X Y : Type 0} (p : Y → Bool) (h : X → Y) (xs : List X) → find p (map h xs) ≡ option_map h (find (λ x. p (h x)) xs)
find-map p h [] = refl
find-map p h (x ∷ xs) = rw (find-map p h xs, option_map-cond) refl

-- of pairs that are made of the items of a list
pub last_of-map : {X A : Type 0} (q : List ℕ) (name : X → List ℕ) (value : X → A) (xs : List X)
    → last_of q (map (λ x. (name x, value x)) xs) ≡ option_map value (find (λ x. bytes_eq (name x) q) (reverse xs))
last_of-map {X} {A} q name value xs = rw (← map-reverse, find-map, option_map-map) refl

-- of pairs whose second parts are changed
pub last_of-second : {A B : Type 0} (q : List ℕ) (f : A → B) (pairs : List (List ℕ × A))
    → last_of q (map (λ p. (p.0, f p.1)) pairs) ≡ option_map f (last_of q pairs)
last_of-second q f pairs = last_of-map q (λ p. p.0) (λ p. f p.1) pairs ∙ sym (option_map-map f (λ p. p.1) _)

pub last_of-push : {A : Type 0} (q : List ℕ) (pairs : List (List ℕ × A)) (n : List ℕ) (v : A)
    → last_of q (pairs ++ (n, v) ∷ []) ≡ cond (bytes_eq n q) (Some v) (last_of q pairs)
last_of-push q pairs n v = rw (reverse-append, option_map-cond) refl

joined : {X Y : Type 0} (h : X → Y) (o : Option X) → option_and_then (λ p. p) (option_map (λ x. Some (h x)) o) ≡ option_map h o
joined h None = refl
joined h (Some x) = refl

joined-map : {X Y : Type 0} (h : X → Option Y) (o : Option X) → option_and_then (λ p. p) (option_map h o) ≡ option_and_then h o
joined-map h None = refl
joined-map h (Some x) = refl

module _ (s : Syntax) (x : Tree) (names : List (List ℕ)) (found : EntryPairs) (q : List ℕ) (o : Option (Bor Entry))
    (h : pairs_view names found ≡ pair_entries (at x) (binds s x)) (e : option_map (λ e. e.now) o ≡ last_of q (named_pairs names found)) where
  both : option_map (λ e. Some (view e)) (last_of q (named_pairs names found)) ≡ option_map (at x) (last_of q (binds s x))
  both =
      sym (last_of-second q (λ e. Some (view e)) (named_pairs names found))
      ∙ ap (last_of q) (map-map (λ p. (p.0, Some (view p.1))) (λ p. (name_of names p.0, p.1)) found ∙ h) ∙ last_of-second q (at x) (binds s x)

  -- a name is found at an entry where it is bound there
  pub found_is_bound : is_some o ≡ is_bound s x q
  found_is_bound =
      sym (is_some-map (λ e. e.now) o) ∙ ap is_some e
      ∙ sym (is_some-map (λ e. Some (view e)) (last_of q (named_pairs names found))) ∙ ap is_some both ∙ is_some-map (at x) (last_of q (binds s x))

  -- the last of what was found at an entry is what the name is bound to there
  pub last_is_bound : option_map (λ e. view e.now) o ≡ bound_to s x q
  last_is_bound =
      sym (option_map-map view (λ e. e.now) o) ∙ ap (option_map view) e
      ∙ sym (joined view (last_of q (named_pairs names found))) ∙ ap (option_and_then (λ p. p)) both ∙ joined-map (at x) (last_of q (binds s x))
