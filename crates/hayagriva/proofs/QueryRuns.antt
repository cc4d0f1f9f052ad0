-- What calls of `next` have given: hits that begin the answer, and nothing behind an error.
use Rattle.std.proofs.Common.{◌≡◌, ◌≢◌, List, [], ◌∷◌, ◌++◌, true, false, Option, None, Some, Ok, Err, refl, sym, ap, ◌∙◌, subst, arith, append_assoc, inl, inr, ⊎_elim}
use Rattle.std.specs.Prelude.{Bool, IfSome, filter, find, sum_by}
use Rattle.std.specs.Iterator.{Yields}
use Rattle.std.specs.List.{last_or}
use Rattle.std.proofs.lemmas.List.Sums.{sum_by-append}
use Rattle.haya_entry.specs.Tree.{Tree}
use Rattle.hayagriva.specs.declared.query.Hit.{Hit}
use Rattle.haya_selectors.specs.declared.selector.SelectorError.TheVariants.{OutOfMemory}
use Rattle.haya_selectors.specs.Calls.{calls}
use Rattle.haya_selectors.specs.Holds.{holds}
use Rattle.hayagriva.specs.QueryIter.{Given, Asks, GivesHit, GivesNone, Stops, NextGives, GaveHits, GaveError, GaveAll, BeginsAnswer, EndsAnswer, StaysEnded, HitsInWords, EndInWords}
use Rattle.hayagriva.specs.QueryState.{QueryState, query_state}
use Rattle.haya_selectors.specs.InWords.{picks, named_entry}
use Rattle.haya_selectors.proofs.Choices.{filter-same}
use Rattle.haya_selectors.proofs.InWords.{bound_to-named_entry, holds-picks}
use Rattle.hayagriva.proofs.Queries.{asks-none, asks-more, hits-append, hit-hits, all_hits}

not_empty : (xs ys : List Tree) (x : Tree) → (xs ++ x ∷ []) ++ ys ≢ []
not_empty [] ys x e = cc
not_empty (y ∷ more) ys x e = cc

-- a query that asked none stands where it stood
stands : (q r : QueryState) → q.left ≡ [] → Asks q q.left r → r ≡ q
stands q r e h =
    let same : r.selector ≡ q.selector = h.selector in
    let left : r.left ≡ q.left = sym (h.entries ∙ ap (λ xs. xs ++ r.left) e) in
    let ticks : r.ticks ≡ q.ticks = omega (arith, h.ticks, ap (sum_by (calls q.selector)) e) in
    λ i. query_state (same i) (left i) (ticks i)

pub stays_ended : StaysEnded
stays_ended q r None e h = (refl, stands q r e h.asks)
stays_ended q r (Some (Ok hit)) e h = absurd (not_empty h.missed r.left h.entry (sym h.asks.entries ∙ e))
stays_ended q r (Some (Err error)) e h = absurd (h.1.some_left e)

last_is : (o : Option Tree) (xs ys : List Tree) (x : Tree) → last_or o ((xs ++ x ∷ []) ++ ys) ≡ last_or (Some x) ys
last_is o [] ys x = refl
last_is o (y ∷ xs) ys x = last_is (Some y) xs ys x

last_holds : (P : Tree → Type 0) (x : Tree) (ys : List Tree) → P x → IfSome (last_or None ys) P → IfSome (last_or (Some x) ys) P
last_holds P x [] p h = p
last_holds P x (y ∷ ys) p h = h

-- a hit, and then the others
first_hit : (q j r : QueryState) (hit : Hit) (given : Given) → GivesHit q hit j → GaveHits j given r → GaveHits q (Ok hit ∷ given) r
first_hit q j r hit given h k =
    let taken = h.missed ++ h.entry ∷ [] in
    let same = h.asks.selector in
    record {
      hits = hit ∷ k.hits;
      asked = taken ++ k.asked;
      only = ap (λ gs. Ok hit ∷ gs) k.only;
      asks = asks-more q j r taken k.asked h.asks k.asks;
      are = hits-append q.selector taken k.asked (hit ∷ []) k.hits (hit-hits q hit j h) (rw same at k.are);
      last = rw (last_is None h.missed k.asked h.entry) (last_holds (λ x. holds q.selector x ≡ true) h.entry k.asked h.holding (rw same at k.last));
    }

first_before : (q j r : QueryState) (hit : Hit) (given : Given) → GivesHit q hit j → GaveError j given r → GaveError q (Ok hit ∷ given) r
first_before q j r hit given h k =
    let taken = h.missed ++ h.entry ∷ [] in
    let same = h.asks.selector in
    record {
      hits = hit ∷ k.hits;
      asked = taken ++ k.asked;
      left = k.left;
      only = ap (λ gs. Ok hit ∷ gs) k.only;
      entries = h.asks.entries ∙ ap (λ l. taken ++ l) k.entries ∙ sym (append_assoc taken k.asked k.left);
      are = hits-append q.selector taken k.asked (hit ∷ []) k.hits (hit-hits q hit j h) (rw same at k.are);
      ended = k.ended;
      ticks = omega (
        arith,
        k.ticks,
        h.asks.ticks,
        ap (λ s. sum_by (calls s) j.left) same,
        ap (sum_by (calls q.selector)) h.asks.entries,
        sum_by-append (calls q.selector) taken j.left,
      );
    }

none_given : (q : QueryState) → GaveHits q [] q
none_given q = record { hits = []; asked = []; only = refl; asks = asks-none q; are = tt; last = tt }

error_given : (q r : QueryState) → Stops q r → r.left ≡ [] → GaveError q (Err OutOfMemory ∷ []) r
error_given q r h e = record { hits = []; asked = []; left = q.left; only = refl; entries = refl; are = tt; ended = e; ticks = h.ticks }

no_more : (q r : QueryState) (given : Given) → q.left ≡ [] → Yields NextGives q given r → (given ≡ []) × (q ≡ r)
no_more q r [] e h = (refl, h)
no_more q r (next ∷ given) e h = let none : Some next ≡ None = (stays_ended q h.0 (Some next) e h.1).0 in absurd (cc)

pub begins_answer : BeginsAnswer
begins_answer q r [] h = inl (subst (GaveHits q []) h (none_given q))
begins_answer q r (Ok hit ∷ given) h =
    ⊎_elim (λ k. inl (first_hit q h.0 r hit given h.1 k)) (λ k. inr (first_before q h.0 r hit given h.1 k)) (begins_answer h.0 r given h.2)
begins_answer q r (Err e ∷ given) h =
    let after = no_more h.0 r given h.1.2 h.2 in
    inr (rw (h.1.0, after.0) (error_given q r (subst (Stops q) after.1 h.1.1) (subst (λ t. t.left ≡ []) after.1 h.1.2)))

all_given : (q t r : QueryState) (given : Given) → GaveHits q given t → GivesNone t r → GaveAll q given r
all_given q t r given h k =
    let all = all_hits q t r h.hits (record { asked = h.asked; asks = h.asks; are = h.are }) k in
    record { hits = h.hits; only = h.only; asks = all.1; are = all.0 }

pub ends_answer : EndsAnswer
ends_answer q r given h =
    ⊎_elim (λ k. inl (all_given q h.0 r given k h.2)) (λ k. inr (subst (GaveError q given) (sym (stands h.0 r k.ended h.2.asks)) k)) (begins_answer q h.0 given h.1)

module _ (p : Tree → Bool) (z : Tree) (zs : List Tree) where
  rest_misses : (b : Bool) → p z ≡ b → filter p (z ∷ zs) ≡ [] → filter p zs ≡ []
  rest_misses true k e = let here : z ∷ filter p zs ≡ [] = rw k at e in absurd (cc)
  rest_misses false k e = rw k at e

  find_behind : (b : Bool) (x : Tree) (behind : List Tree) → p z ≡ b → filter p (z ∷ zs) ≡ [] → find p behind ≡ Some x → find p (z ∷ behind) ≡ Some x
  find_behind true x behind k e h = let here : z ∷ filter p zs ≡ [] = rw k at e in absurd (cc)
  find_behind false x behind k e h = rw k h

find_past : (p : Tree → Bool) (xs ys : List Tree) (x : Tree) → filter p xs ≡ [] → p x ≡ true → find p ((xs ++ x ∷ []) ++ ys) ≡ Some x
find_past p [] ys x e h = rw h refl
find_past p (z ∷ zs) ys x e h = find_behind p z zs (p z) x ((zs ++ x ∷ []) ++ ys) refl e (find_past p zs ys x (rest_misses p z zs (p z) refl e) h)

pub hits_in_words : HitsInWords
hits_in_words q r hit h =
    let s = q.selector in
    let first = find_past (picks s) h.missed r.left h.entry (sym (filter-same (holds-picks s) h.missed) ∙ h.misses) (sym (holds-picks s h.entry) ∙ h.holding) in
    record {
      entry = ap (find (picks s)) h.asks.entries ∙ first ∙ ap Some (sym h.is.entry);
      names = λ name. h.is.bindings.entries name ∙ bound_to-named_entry s name h.entry ∙ ap (named_entry s name) (sym h.is.entry);
    }

pub end_in_words : EndInWords
end_in_words q r h = sym (filter-same (holds-picks q.selector) q.left) ∙ h.misses
