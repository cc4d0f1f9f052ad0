-- Hits one at a time: what a query gives next, and what it has given so far.
use Rattle.std.specs.Prelude.{◌≡◌, ◌≢◌, ◌≤◌, ◌⊎◌, ℕ, ◌+◌, true, List, [], ◌∷◌, ◌++◌, IfSome, filter, find, map, sum_by, Option, None, Some, Result, Ok, Err}
use Rattle.std.specs.Iterator.{Yields, YieldsThen}
use Rattle.std.specs.List.{last_or}
use Rattle.haya_entry.specs.Tree.{Tree}
use Rattle.hayagriva.specs.declared.query.Hit.{Hit}
use Rattle.haya_selectors.specs.declared.selector.SelectorError.{SelectorError}
use Rattle.haya_selectors.specs.declared.selector.SelectorError.TheVariants.{OutOfMemory}
use Rattle.haya_selectors.specs.Calls.{calls}
use Rattle.haya_selectors.specs.Fault.{fault}
use Rattle.haya_selectors.specs.Holds.{holds}
use Rattle.haya_selectors.specs.InWords.{picks, named_entry}
use Rattle.hayagriva.specs.Query.{IsHit, AreHits, hit_entry, hit_bound}
use Rattle.hayagriva.specs.QueryState.{QueryState, query_state}
use Rattle.haya_selectors.specs.Reading.{TextReads, TextFails}

-- what may start for a text over entries: the query of the selector that it reads as, before its
-- first entry
abbrev pub QueryStarts : List ℕ → List Tree → Result QueryState SelectorError → Type 0
QueryStarts text xs (Ok q) = TextReads text q.selector × (q ≡ query_state q.selector xs 0)
QueryStarts text xs (Err e) = IfSome (fault e) (TextFails text)

-- from q to r these entries were asked: the first of those that were left, each once
pub record Asks (q : QueryState) (asked : List Tree) (r : QueryState) : Type 0 where
  pub selector : r.selector ≡ q.selector
  pub entries : q.left ≡ asked ++ r.left
  pub ticks : r.ticks ≡ q.ticks + sum_by (calls q.selector) asked

-- a hit comes: that of the first entry left where the selector holds, and the entries behind it
-- aren't asked
pub record GivesHit (q : QueryState) (hit : Hit) (r : QueryState) : Type 0 where
  pub missed : List Tree
  pub entry : Tree
  pub asks : Asks q (missed ++ entry ∷ []) r
  pub misses : filter (holds q.selector) missed ≡ []
  pub holding : holds q.selector entry ≡ true
  pub is : IsHit q.selector entry hit

-- no hit is left
pub record GivesNone (q r : QueryState) : Type 0 where
  pub asks : Asks q q.left r
  pub misses : filter (holds q.selector) q.left ≡ []

-- an allocation fails at an entry that was left
pub record Stops (q r : QueryState) : Type 0 where
  pub some_left : q.left ≢ []
  pub selector : r.selector ≡ q.selector
  pub ticks : r.ticks ≤ q.ticks + sum_by (calls q.selector) q.left

-- what `next` gives: a hit, nothing where no hit is left, or once that an allocation fails
abbrev pub NextGives : QueryState → Option (Result Hit SelectorError) → QueryState → Type 0
NextGives q None r = GivesNone q r
NextGives q (Some (Ok hit)) r = GivesHit q hit r
NextGives q (Some (Err e)) r = (e ≡ OutOfMemory) × Stops q r × (r.left ≡ [])

-- the same of a search over the entries left, which an error doesn't end
abbrev pub SearchGives : {E : Type 0} → QueryState → Result (Option Hit) E → QueryState → Type 0
SearchGives q (Ok None) r = GivesNone q r
SearchGives q (Ok (Some hit)) r = GivesHit q hit r
SearchGives q (Err _) r = Stops q r

-- ---- whole runs

-- what calls of `next` gave, in turn
abbrev pub Given : Type 0
Given = List (Result Hit SelectorError)

-- hits alone were given: those of the entries that were asked, up to the last hit's
pub record GaveHits (q : QueryState) (given : Given) (r : QueryState) : Type 0 where
  pub hits : List Hit
  pub asked : List Tree
  pub only : given ≡ map Ok hits
  pub asks : Asks q asked r
  pub are : AreHits q.selector asked hits
  pub last : IfSome (last_or None asked) (λ x. holds q.selector x ≡ true)

-- the hits of a first part of the entries were given, then an error, and nothing comes behind it
pub record GaveError (q : QueryState) (given : Given) (r : QueryState) : Type 0 where
  pub hits : List Hit
  pub asked : List Tree
  pub left : List Tree
  pub only : given ≡ map Ok hits ++ Err OutOfMemory ∷ []
  pub entries : q.left ≡ asked ++ left
  pub are : AreHits q.selector asked hits
  pub ended : r.left ≡ []
  pub ticks : r.ticks ≤ q.ticks + sum_by (calls q.selector) q.left

-- all hits were given, and each entry was asked once
pub record GaveAll (q : QueryState) (given : Given) (r : QueryState) : Type 0 where
  pub hits : List Hit
  pub only : given ≡ map Ok hits
  pub asks : Asks q q.left r
  pub are : AreHits q.selector q.left hits

-- what was given so far begins the answer
abbrev pub BeginsAnswer : Type 0
BeginsAnswer = (q r : QueryState) (given : Given) → Yields NextGives q given r
    → GaveHits q given r ⊎ GaveError q given r

-- at the end it is the answer
abbrev pub EndsAnswer : Type 0
EndsAnswer = (q r : QueryState) (given : Given) → YieldsThen NextGives q given None r
    → GaveAll q given r ⊎ GaveError q given r

-- where no entry is left, nothing comes for good
abbrev pub StaysEnded : Type 0
StaysEnded = (q r : QueryState) (next : Option (Result Hit SelectorError)) → q.left ≡ []
    → NextGives q next r → (next ≡ None) × (r ≡ q)

-- ---- the same in words of entries, for a selector that is written in the code

-- a hit is that of the first entry left that is picked, and names stand there for what the selector
-- says
pub record GivesPicked (q : QueryState) (hit : Hit) : Type 0 where
  pub entry : find (picks q.selector) q.left ≡ Some (hit_entry hit)
  pub names : (name : List ℕ) → hit_bound hit name ≡ named_entry q.selector name (hit_entry hit)

abbrev pub HitsInWords : Type 0
HitsInWords = (q r : QueryState) (hit : Hit) → NextGives q (Some (Ok hit)) r → GivesPicked q hit

-- no entry left is picked
abbrev pub EndInWords : Type 0
EndInWords = (q r : QueryState) → NextGives q None r → filter (picks q.selector) q.left ≡ []
