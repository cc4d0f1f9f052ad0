-- Which entries were asked, and the hits that they gave.
use Rattle.std.proofs.Common.{◌≡◌, ◌≢◌, ◌+◌, ◌*◌, ◌≤◌, List, [], ◌∷◌, ◌++◌, ℕ, true, false, refl, sym, ap, ◌∙◌, arith, append_assoc, append-nil}
use Rattle.std.specs.Prelude.{filter, sum_by}
use Rattle.std.specs.List.{AllZip}
use Rattle.std.proofs.lemmas.List.Elements.{filter-append}
use Rattle.std.proofs.lemmas.List.Sums.{sum_by-append, sum_by-cons}
use Rattle.haya_entry.specs.Tree.{Tree, size}
use Rattle.hayagriva.specs.declared.query.Hit.{Hit}
use Rattle.haya_selectors.specs.Calls.{calls}
use Rattle.haya_selectors.specs.Holds.{holds}
use Rattle.hayagriva.specs.Query.{IsHit, AreHits}
use Rattle.hayagriva.specs.QueryIter.{Asks, GivesHit, GivesNone, Stops}
use Rattle.hayagriva.specs.QueryState.{QueryState, query_state}
use Rattle.haya_selectors.specs.Syntax.{Syntax, nodes}
use Rattle.haya_selectors.proofs.Bounds.{calls_at_most}

pub asks-none : (q : QueryState) → Asks q [] q
asks-none q = record { selector = refl; entries = refl; ticks = omega arith }

pub asks-more : (q r t : QueryState) (xs ys : List Tree) → Asks q xs r → Asks r ys t → Asks q (xs ++ ys) t
asks-more q r t xs ys h k = record {
  selector = k.selector ∙ h.selector;
  entries = h.entries ∙ ap (λ l. xs ++ l) k.entries ∙ sym (append_assoc xs ys t.left);
  ticks = omega (arith, h.ticks, k.ticks, ap (λ s. sum_by (calls s) ys) h.selector, sum_by-append (calls q.selector) xs ys);
}

pub asks-one : (s : Syntax) (x : Tree) (rest : List Tree) (m n : ℕ) → n ≡ m + calls s x → Asks (query_state s (x ∷ rest) m) (x ∷ []) (query_state s rest n)
asks-one s x rest m n e = record { selector = refl; entries = refl; ticks = omega (arith, e, sum_by-cons (calls s) x []) }

-- the entries that were asked so far, none of which is a hit
pub record Misses (q r : QueryState) : Type 0 where
  pub missed : List Tree
  pub asks : Asks q missed r
  pub misses : filter (holds q.selector) missed ≡ []

pub no_miss : (q : QueryState) → Misses q q
no_miss q = record { missed = []; asks = asks-none q; misses = refl }

module _ (s : Syntax) (x : Tree) (rest all : List Tree) (before m n : ℕ) where
  pub one_miss : Misses (query_state s all before) (query_state s (x ∷ rest) m) → holds s x ≡ false → n ≡ m + calls s x → Misses (query_state s all before) (query_state s rest n)
  one_miss h missing ticks = record {
    missed = h.missed ++ x ∷ [];
    asks = asks-more _ _ _ h.missed (x ∷ []) h.asks (asks-one s x rest m n ticks);
    misses = filter-append (holds s) h.missed (x ∷ []) ∙ rw (h.misses, missing) refl;
  }

  pub then_hit : (hit : Hit) → Misses (query_state s all before) (query_state s (x ∷ rest) m) → holds s x ≡ true → IsHit s x hit → n ≡ m + calls s x
      → GivesHit (query_state s all before) hit (query_state s rest n)
  then_hit hit h holding is ticks = record {
    missed = h.missed;
    entry = x;
    asks = asks-more _ _ _ h.missed (x ∷ []) h.asks (asks-one s x rest m n ticks);
    misses = h.misses;
    holding = holding;
    is = is;
  }

  not_empty : (xs : List Tree) → xs ++ x ∷ rest ≢ []
  not_empty [] e = cc
  not_empty (y ∷ ys) e = cc

  pub then_stops : Misses (query_state s all before) (query_state s (x ∷ rest) m) → n ≤ m + calls s x → Stops (query_state s all before) (query_state s rest n)
  then_stops h ticks = record {
    some_left = λ e. not_empty h.missed (sym h.asks.entries ∙ e);
    selector = refl;
    ticks = omega (arith, ticks, h.asks.ticks, ap (sum_by (calls s)) h.asks.entries, sum_by-append (calls s) h.missed (x ∷ rest), sum_by-cons (calls s) x rest);
  }

pub then_none : (s : Syntax) (all : List Tree) (before n : ℕ) → Misses (query_state s all before) (query_state s [] n) → GivesNone (query_state s all before) (query_state s [] n)
then_none s all before n h = let whole : all ≡ h.missed = h.asks.entries ∙ append-nil h.missed in
    record { asks = rw (sym whole) at h.asks; misses = ap (filter (holds s)) whole ∙ h.misses }

-- the hits of the entries that were asked so far
pub record HitsSoFar (q : QueryState) (hits : List Hit) (r : QueryState) : Type 0 where
  pub asked : List Tree
  pub asks : Asks q asked r
  pub are : AreHits q.selector asked hits

pub no_hits : (q : QueryState) → HitsSoFar q [] q
no_hits q = record { asked = []; asks = asks-none q; are = tt }

zip-append : {A B : Type 0} (R : A → B → Type 0) (xs us : List A) (ys vs : List B) → AllZip R xs ys → AllZip R us vs → AllZip R (xs ++ us) (ys ++ vs)
zip-append R [] us [] vs h k = k
zip-append R [] us (y ∷ ys) vs h k = absurd h
zip-append R (x ∷ xs) us [] vs h k = absurd h
zip-append R (x ∷ xs) us (y ∷ ys) vs h k = (h.0, zip-append R xs us ys vs h.1 k)

-- the hits of two parts of the entries are those of both
pub hits-append : (s : Syntax) (xs us : List Tree) (hits more : List Hit) → AreHits s xs hits → AreHits s us more → AreHits s (xs ++ us) (hits ++ more)
hits-append s xs us hits more h k = rw (filter-append (holds s) xs us) (zip-append (IsHit s) (filter (holds s) xs) (filter (holds s) us) hits more h k)

-- a hit is that of the entries that it took
pub hit-hits : (q : QueryState) (hit : Hit) (r : QueryState) (h : GivesHit q hit r) → AreHits q.selector (h.missed ++ h.entry ∷ []) (hit ∷ [])
hit-hits q hit r h = rw (filter-append (holds q.selector) h.missed (h.entry ∷ []), h.misses, h.holding) (h.is, tt)

pub one_hit : (q r t : QueryState) (hits : List Hit) (hit : Hit) → HitsSoFar q hits r → GivesHit r hit t → HitsSoFar q (hits ++ hit ∷ []) t
one_hit q r t hits hit h k =
    let taken = k.missed ++ k.entry ∷ [] in
    record {
      asked = h.asked ++ taken;
      asks = asks-more q r t h.asked taken h.asks k.asks;
      are = hits-append q.selector h.asked taken hits (hit ∷ []) h.are (rw h.asks.selector at (hit-hits r hit t k));
    }

-- at the end they are all hits, and each entry was asked once
pub all_hits : (q r t : QueryState) (hits : List Hit) → HitsSoFar q hits r → GivesNone r t → AreHits q.selector q.left hits × Asks q q.left t
all_hits q r t hits h k =
    let none : AreHits r.selector r.left [] = rw k.misses tt in
    let are : AreHits q.selector (h.asked ++ r.left) (hits ++ []) = hits-append q.selector h.asked r.left hits [] h.are (rw h.asks.selector at none) in
    let asks : Asks q (h.asked ++ r.left) t = asks-more q r t h.asked r.left h.asks k.asks in
    (rw (append-nil, sym h.asks.entries) at are, rw (sym h.asks.entries) at asks)

-- no more calls than forms times entries
sum_at_most : (s : Syntax) (xs : List Tree) → sum_by (calls s) xs ≤ nodes s * sum_by size xs
sum_at_most s [] = omega arith
sum_at_most s (x ∷ xs) = omega (arith, sum_at_most s xs, calls_at_most s x, sum_by-cons (calls s) x xs, ap (λ m. nodes s * m) (sum_by-cons size x xs))

-- also of those that have been asked so far, and of some that are left
pub most_so_far : (q r : QueryState) (hits : List Hit) (n : ℕ) → HitsSoFar q hits r → n ≤ r.ticks + sum_by (calls q.selector) r.left → n ≤ q.ticks + nodes q.selector * sum_by size q.left
most_so_far q r hits n h most =
    let s = q.selector in
    omega (arith, most, h.asks.ticks, ap (sum_by (calls s)) h.asks.entries, sum_by-append (calls s) h.asked r.left, sum_at_most s q.left)
