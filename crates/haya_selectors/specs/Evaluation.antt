-- What the evaluator's own contracts say: what a call has found, and how often it has ticked.
use Rattle.std.specs.Prelude.{◌≡◌, ◌≤◌, ℕ, zero, suc, ◌+◌, Bool, not, if◌then◌else◌, List, [], ◌++◌, Option, Some, is_some, Result, MatchResult, length, map, take}
use Rattle.std.specs.Option.{option_map_or}
use Rattle.haya_entry.specs.declared.entry.Entry.{Entry}
use Rattle.haya_entry.specs.Tree.{Tree, view, at, at_list}
use Rattle.haya_selectors.specs.Binds.{Pairs}
use Rattle.haya_selectors.specs.Compiled.{name_of}
use Rattle.haya_selectors.specs.declared.nodes.Nodes.{Nodes}
use Rattle.haya_selectors.specs.Nodes.{slot_names}

-- slots with the entries that they were bound to, in order
abbrev pub EntryPairs : Type 0
EntryPairs = List (ℕ × Entry)

-- the same with the slots' names
abbrev pub named_pairs : List (List ℕ) → EntryPairs → List (List ℕ × Entry)
named_pairs names found = map (λ p. (name_of names p.0, p.1)) found

-- the same with entries by value
abbrev pub pairs_view : List (List ℕ) → EntryPairs → List (List ℕ × Option Tree)
pairs_view names found = map (λ p. (name_of names p.0, Some (view p.1))) found

-- pairs with the entry at each path
abbrev pub pair_entries : (List ℕ → Option Tree) → Pairs → List (List ℕ × Option Tree)
pair_entries entry_at pairs = map (λ p. (p.0, entry_at p.1)) pairs

-- the pairs were added to what was found, with paths from an entry, or from a list of parents
abbrev pub AddsAt : List (List ℕ) → Tree → EntryPairs → EntryPairs → Pairs → Type 0
AddsAt names x old new pairs =
    pairs_view names new ≡ pairs_view names old ++ pair_entries (at x) pairs

abbrev pub AddsOn : List (List ℕ) → List Tree → EntryPairs → EntryPairs → Pairs → Type 0
AddsOn names xs old new pairs =
    pairs_view names new ≡ pairs_view names old ++ pair_entries (at_list xs) pairs

-- the pairs of an entry were added where the answer is true, else none
abbrev pub AddsAtIf : Nodes → Tree → EntryPairs → EntryPairs → (Tree → Pairs) → Bool → Type 0
AddsAtIf nodes x old new pairs b =
    AddsAt (slot_names nodes) x old new (if b then pairs x else [])

-- the pairs of a list of parents were added where there is an answer, else none
abbrev pub AddsOnIf : {A : Type 0} → Nodes → List Tree → EntryPairs → EntryPairs →
    (List Tree → Pairs) → Option A → Type 0
AddsOnIf nodes xs old new pairs o =
    AddsOn (slot_names nodes) xs old new (if is_some o then pairs xs else [])

-- the pairs for the answer were added, if there is one
abbrev pub AddsOnFor : {A : Type 0} → Nodes → List Tree → EntryPairs → EntryPairs →
    (A → Pairs) → Option A → Type 0
AddsOnFor nodes xs old new pairs o =
    AddsOn (slot_names nodes) xs old new (option_map_or pairs o [])

-- what was found before is still in front
abbrev pub KeepsFound : Nodes → EntryPairs → EntryPairs → Type 0
KeepsFound nodes old new =
    take (length old) (pairs_view (slot_names nodes) new) ≡ pairs_view (slot_names nodes) old

-- a call that ends well has ticked n times, one that is out of memory at most n times
abbrev pub Ticks : {T E : Type 0} → Result T E → ℕ → ℕ → ℕ → Type 0
Ticks result old new n = MatchResult result (λ _. new ≡ old + n) (λ _. new ≤ old + n)

-- entries by value, in order
abbrev pub views : List Entry → List Tree
views es = map view es

-- a truth value behind so many `!`
abbrev pub turned : ℕ → Bool → Bool
turned zero b = b
turned (suc n) b = turned n (not b)
