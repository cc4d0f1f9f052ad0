-- Assignments of a table, and members at positions.
use Rattle.std.proofs.Common.{◌≡◌, ℕ, zero, suc, ◌+◌, ◌<◌, ◌≤◌, Bool, true, false, List, [], ◌∷◌, length, get_or, None, Some, refl, sym, ap, ◌∙◌, arith, inl, inr}
use Rattle.std.specs.List.{AllZip, list_any, range_with_len}
use Rattle.std.specs.List.Sorted.{IsStrictlyIncreasing}
use Rattle.std.proofs.lemmas.Bool.{cases_lt}
use Rattle.std.proofs.lemmas.List.{get_or_default, get_or_past, get_or-take}
use Rattle.std.proofs.lemmas.List.Elements.{Contains-get_or, filter_passes}
use Rattle.std.proofs.lemmas.List.Folds.{Any-from_list_any}
use Rattle.std.proofs.lemmas.List.Kept.{AllPairs-filter, IsStrictlyIncreasing-filter}
use Rattle.std.proofs.lemmas.Option.{get_or_from_slice_get}
use Rattle.haya_assignment.specs.Answer.{IsShort, accepted_positions}
use Rattle.haya_assignment.specs.Assignment.{Table, IsAssignment, IsTrueAt, least, true_positions}
use Rattle.haya_assignment.specs.Placed.{accepts, IsApart, IsLeastBelow, IsPlaced, SameBelow}
use Rattle.haya_assignment.specs.Shift.{IsStuck}
use Rattle.haya_assignment.proofs.Listing.{Contains-from_true_positions, Contains-true_positions, IsTrueAt-from_get_or, least_assigned, least_cases, none_least, range_ascends}
use Rattle.haya_assignment.proofs.Numbers.{at_most_those, contains_at}
use Rattle.haya_assignment.proofs.Placing.{rest_fewer, stuck_none}

zip_length : (table : Table) (is : List ℕ) → AllZip IsTrueAt table is → length is ≡ length table
zip_length [] [] h = refl
zip_length [] (i ∷ is) h = absurd h
zip_length (row ∷ rows) [] h = absurd h
zip_length (row ∷ rows) (i ∷ is) h = ap suc (zip_length rows is h.1)

zip_at : (table : Table) (is : List ℕ) → AllZip IsTrueAt table is → (k : ℕ) → k < length is → accepts table k (get_or is k 0) ≡ true
unfolding accepts
zip_at [] [] h k l = absurd (omega arith)
zip_at [] (i ∷ is) h k l = absurd h
zip_at (row ∷ rows) [] h k l = absurd h
zip_at (row ∷ rows) (i ∷ is) h zero l = get_or_from_slice_get row i true false h.0
zip_at (row ∷ rows) (i ∷ is) h (suc k) l = zip_at rows is h.1 k (omega arith)

zip_from : (table : Table) (is : List ℕ) → length is ≡ length table → ((k : ℕ) → k < length is → accepts table k (get_or is k 0) ≡ true) → AllZip IsTrueAt table is
unfolding accepts
zip_from [] [] long ok = tt
zip_from [] (i ∷ is) long ok = absurd (omega arith)
zip_from (row ∷ rows) [] long ok = absurd (omega arith)
zip_from (row ∷ rows) (i ∷ is) long ok =
    let first : get_or row i false ≡ true = ok 0 (omega arith) in
    (IsTrueAt-from_get_or row i first, zip_from rows is (omega arith) (λ k l. ok (suc k) (omega arith)))

pub assigned_length : (table : Table) (is : List ℕ) → IsAssignment table is → length is ≡ length table
assigned_length table is a = zip_length table is a.accepted

pub placed_assigned : (table : Table) (is : List ℕ) → IsAssignment table is → IsPlaced (accepts table) is
placed_assigned table is a = record { accepted = zip_at table is a.accepted; apart = λ i j l h. a.distinct i j 0 l h }

pub assigned_placed : (table : Table) (is : List ℕ) → length is ≡ length table → IsPlaced (accepts table) is → IsAssignment table is
assigned_placed table is long placed =
    record {
      accepted = zip_from table is long placed.accepted;
      distinct = λ i j d l h. rw (get_or_default is i d 0 (omega arith), get_or_default is j d 0 h) (placed.apart i j l h);
    }

-- what no assignment that first differs is less than, is the first
pub least_from : (table : Table) (is : List ℕ) → length is ≡ length table → IsPlaced (accepts table) is → IsLeastBelow (accepts table) (length table) is → least table ≡ Some is
least_from table is long placed low =
    let w = least_cases table is (assigned_placed table is long placed) in
    elim w.2 [
      | inl e ↦ w.1 ∙ ap (λ (js : List ℕ). Some js) e
      | inr b ↦
          let first = least_is w.0 w.1 in
          let as_long : length w.0 ≡ length table = assigned_length table w.0 first in
          let same : SameBelow b.place is w.0 = λ k h. sym (get_or-take b.place is k 0 h) ∙ ap (λ (js : List ℕ). get_or js k 0) (sym b.same) ∙ get_or-take b.place w.0 k 0 h in
          let less : get_or w.0 b.place 0 < get_or is b.place 0 = b.less in
          elim (cases_lt b.place (length is)) [
            | inl l ↦ absurd (let no : get_or is b.place 0 ≤ get_or w.0 b.place 0 = low w.0 (placed_assigned table w.0 first) (omega arith) b.place (omega arith) same in omega arith)
            | inr g ↦ absurd (let past : get_or is b.place 0 ≡ 0 = get_or_past is b.place 0 g in omega arith)
          ]
    ]
  where
    least_is : (first : List ℕ) → least table ≡ Some first → IsAssignment table first
    least_is first e = least_assigned table first e

-- members that are stuck leave no assignment
pub stuck_least : (table : Table) (member : ℕ) (ps : List ℕ) (flags : List Bool) → length ps ≤ length table → IsStuck (accepts table) member ps flags → least table ≡ None
stuck_least table member ps flags fits stuck = none_least table (λ is a.
    stuck_none (accepts table) member ps flags is stuck (placed_assigned table is a) (let long = assigned_length table is a in omega arith))

range_increases : (n : ℕ) → IsStrictlyIncreasing (range_with_len 0 n)
range_increases n k h = range_ascends n k (k + 1) 0 (omega arith) h

-- and are short of positions
pub stuck_short : (table : Table) (parents member : ℕ) (ps : List ℕ) (flags : List Bool) → length ps ≤ length table → IsStuck (accepts table) member ps flags → IsShort table parents (true_positions flags)
unfolding accepts
stuck_short table parents member ps flags fits stuck =
    let members = true_positions flags in
    let test : ℕ → Bool = λ i. list_any (λ m. get_or (get_or table m []) i false) members in
    let accepted = accepted_positions table parents members in
    let many : length stuck.members ≤ length members = at_most_those stuck.members members stuck.distinct.apart (λ t h. Contains-true_positions flags _ (stuck.set t h)) in
    let apart : IsApart accepted = λ i j a b. let less : get_or accepted i 0 < get_or accepted j 0 = AllPairs-filter (λ i j. i < j) test (range_with_len 0 parents) (range_ascends parents) i j 0 a b in λ e. omega arith in
    record {
      ascending = IsStrictlyIncreasing-filter (λ i. get_or flags i false) (range_with_len 0 (length flags)) (range_increases (length flags));
      known = λ k d h.
          let c = stuck.flagged (get_or members k d) (Contains-from_true_positions flags _ (Contains-get_or members k d h)) in
          let l : get_or stuck.members c.0 0 < length ps = stuck.distinct.known c.0 c.1 in
          let at : get_or stuck.members c.0 0 ≡ get_or members k d = contains_at stuck.members _ c in
          omega arith;
      fewer =
          let few : length accepted < length stuck.members = rest_fewer ps stuck.members accepted stuck.distinct.some apart (λ k h.
          let j = get_or accepted k 0 in
          let some = Any-from_list_any (λ m. get_or (get_or table m []) j false) members (filter_passes test (range_with_len 0 parents) k 0 h) in
          let c = stuck.flagged some.1 (Contains-from_true_positions flags some.1 (some.0, some.2, some.3)) in
          let at : get_or stuck.members c.0 0 ≡ some.1 = contains_at stuck.members some.1 c in
          let w = stuck.taken c.0 j c.1 (rw at some.4) in
          record {
            holder = w.holder;
            other = w.other;
            there = w.there;
            among = w.among;
          }) in
          omega arith;
    }
