-- Slots that are filled one after another.
use Rattle.std.proofs.Common.{◌≡◌, ◌<◌, ◌≤◌, ℕ, zero, suc, List, [], ◌∷◌, Some, length, take, set, subst, arith}
use Rattle.std.specs.Prelude.{slice_get}
use Rattle.haya_views.specs.declared.entry_id.EntryId.{EntryId}
use Rattle.hayagriva_c.specs.Hits.{AllSlots}

-- one more slot
pub slot_more : (Is : List ℕ → EntryId → Type 0) (names : List (List ℕ)) (olds news : List EntryId) (k : ℕ) (name : List ℕ) (x : EntryId)
    → slice_get names k ≡ Some name → k < length olds → AllSlots Is (take k names) olds news → Is name x
    → AllSlots Is (take (suc k) names) olds (set news k x)
slot_more Is [] olds news k name x at in_room h is = absurd (cc)
slot_more Is (n ∷ ns) [] news k name x at in_room h is = absurd (omega arith)
slot_more Is (n ∷ ns) (o ∷ os) [] zero name x at in_room h is = absurd (cc)
slot_more Is (n ∷ ns) (o ∷ os) (m ∷ ms) zero name x at in_room h is =
    let same : name ≡ n = cc in
    let rest : ms ≡ os = cc in (subst (λ y. Is y x) same is, rest)
slot_more Is (n ∷ ns) (o ∷ os) [] (suc k) name x at in_room h is = absurd h
slot_more Is (n ∷ ns) (o ∷ os) (m ∷ ms) (suc k) name x at in_room h is =
    let room : k < length os = omega arith in (h.0, slot_more Is ns os ms k name x at room h.1 is)

-- all are filled where there are no more names, or no more room
pub all_slots : (Is : List ℕ → EntryId → Type 0) (names : List (List ℕ)) (olds news : List EntryId) (k : ℕ)
    → AllSlots Is (take k names) olds news → (k < length olds → length names ≤ k) → AllSlots Is names olds news
all_slots Is [] olds news zero h full = h
all_slots Is [] olds news (suc k) h full = h
all_slots Is (n ∷ ns) [] news zero h full = h
all_slots Is (n ∷ ns) [] news (suc k) h full = h
all_slots Is (n ∷ ns) (o ∷ os) news zero h full =
    let room : 0 < length (o ∷ os) = omega arith in
    let none : length (n ∷ ns) ≤ 0 = full room in absurd (omega arith)
all_slots Is (n ∷ ns) (o ∷ os) [] (suc k) h full = absurd h
all_slots Is (n ∷ ns) (o ∷ os) (m ∷ ms) (suc k) h full =
    let fewer : k < length os → length ns ≤ k =
    λ (less : k < length os). (let room : suc k < length (o ∷ os) = omega arith in let none : length (n ∷ ns) ≤ suc k = full room in omega arith) in
    (h.0, all_slots Is ns os ms k h.1 fewer)
