-- Simple selectors: they bind nothing, and what their answers on parents come to.
use Rattle.std.proofs.Common.{◌≡◌, ◌+◌, ℕ, Bool, true, false, List, [], ◌∷◌, Option, Some, None, map, refl, sym, ap, ◌∙◌, append-nil}
use Rattle.std.specs.Prelude.{cond, is_some, option_and_then, option_map, position, slice_get, sum_by}
use Rattle.std.specs.List.{list_any}
use Rattle.std.specs.Option.{option_map_or}
use Rattle.haya_text.proofs.Tells.{and-both}
use Rattle.haya_entry.specs.Names.{has_all}
use Rattle.haya_entry.specs.Tree.{Tree, parents}
use Rattle.haya_selectors.specs.Binds.{Pairs, binds, binds_on, first_binds, first_binds_on, pairs_at}
use Rattle.haya_selectors.specs.Calls.{calls, calls_on}
use Rattle.haya_selectors.specs.Holds.{candidates, holds, kept_places}
use Rattle.haya_selectors.specs.Places.{items_up_to}
use Rattle.haya_selectors.specs.Simple.{all_simple, has_plain_candidates, is_simple}
use Rattle.haya_selectors.specs.Syntax.{Syntax, Wildcard, Entry, Neg, Binding, Attr, Alt, Multi, Ancestrage, Syntaxes, none, more}
use Rattle.haya_selectors.proofs.InWords.{all-names, candidates-stands, list_any-same}

pub either : {A : Type 0} (b : Bool) (xs ys zs : List A) → xs ≡ zs → ys ≡ zs → cond b xs ys ≡ zs
either true xs ys zs e f = e
either false xs ys zs e f = f

-- no pairs, at whichever place
none_at : (pairs : Tree → Pairs) (xs : List Tree) (o : Option ℕ) → ((x : Tree) → pairs x ≡ []) → option_map_or (pairs_at pairs xs) o [] ≡ []
none_at pairs xs None nothing = refl
none_at pairs xs (Some i) nothing = by (slice_get xs i)
  where
    led : Pairs → Pairs
    led ps = map {B = List ℕ × List ℕ} (λ p. (p.0, i ∷ p.1)) ps

    by : (o : Option Tree) → led (option_map_or pairs o []) ≡ []
    by None = refl
    by (Some x) = ap led (nothing x)

mutual
  pub binds-simple : (s : Syntax) (x : Tree) → is_simple s ≡ true → binds s x ≡ []
  binds-simple Wildcard x h = refl
  binds-simple (Entry t) x h = refl
  binds-simple (Neg s) x h = refl
  binds-simple (Binding n s) x h = absurd (cc)
  binds-simple (Attr s names) x h = binds-simple s x (and-both (has_plain_candidates s) (is_simple s) h).1
  binds-simple (Alt ss) x h = first_binds-simple ss x h
  binds-simple (Multi ss) x h = refl
  binds-simple (Ancestrage l r) x h =
      let two = and-both (is_simple l) (is_simple r) h in
      rw (binds-simple l x two.0, binds_on-simple r (parents x) two.1) refl

  first_binds-simple : (ss : Syntaxes) (x : Tree) → all_simple ss ≡ true → first_binds ss x ≡ []
  first_binds-simple none x h = refl
  first_binds-simple (more s ss) x h =
      let two = and-both (is_simple s) (all_simple ss) h in
      either (holds s x) _ _ _ (binds-simple s x two.0) (first_binds-simple ss x two.1)

  pub binds_on-simple : (s : Syntax) (xs : List Tree) → is_simple s ≡ true → binds_on s xs ≡ []
  binds_on-simple Wildcard xs h = refl
  binds_on-simple (Entry t) xs h = refl
  binds_on-simple (Neg s) xs h = refl
  binds_on-simple (Binding n s) xs h = absurd (cc)
  binds_on-simple (Attr s names) xs h = binds_on-simple s xs (and-both (has_plain_candidates s) (is_simple s) h).1
  binds_on-simple (Alt ss) xs h = first_binds_on-simple ss xs h
  binds_on-simple (Multi ss) xs h = absurd (cc)
  binds_on-simple (Ancestrage l r) xs h =
      let two = and-both (is_simple l) (is_simple r) h in
      none_at _ xs (position (holds (Ancestrage l r)) xs) (λ x. rw (binds-simple l x two.0, binds_on-simple r (parents x) two.1) refl)

  first_binds_on-simple : (ss : Syntaxes) (xs : List Tree) → all_simple ss ≡ true → first_binds_on ss xs ≡ []
  first_binds_on-simple none xs h = refl
  first_binds_on-simple (more s ss) xs h =
      let two = and-both (is_simple s) (all_simple ss) h in
      either (is_some (candidates s xs)) _ _ _ (binds_on-simple s xs two.0) (first_binds_on-simple ss xs two.1)

-- a chain whose right side is simple binds what its left side does
pub chain_binds : (s l r : Syntax) (x : Tree) → s ≡ Ancestrage l r → is_simple r ≡ true → binds l x ≡ binds s x
chain_binds s l r x e h = rw (e, binds_on-simple r (parents x) h) (sym (append-nil (binds l x)))

-- ---- answers on parents
pub all_have : (names : List (List ℕ)) (xs : List Tree) → is_some (option_and_then (kept_places names xs) (candidates Wildcard xs)) ≡ list_any (has_all names) xs
all_have names xs = candidates-stands (Attr Wildcard names) xs ∙ list_any-same (λ x. sym (all-names names x)) xs

-- where a chain holds first
module _ (s l r : Syntax) (xs : List Tree) (e : s ≡ Ancestrage l r) where
  pub chain_first : candidates s xs ≡ option_map (λ i. i ∷ []) (position (holds s) xs)
  chain_first = rw e refl

  pub chain_calls : calls_on s xs ≡ 1 + sum_by (calls s) (items_up_to (holds s) xs)
  chain_calls = rw e refl
