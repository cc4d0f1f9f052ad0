-- What is given of a hit is the next hit.
use Rattle.std.proofs.Common.{◌≡◌, ℕ, List, [], ◌∷◌, Some, inl, inr, ap, refl, sym, ◌∙◌}
use Rattle.std.specs.Prelude.{map, option_and_then, slice_get, string_bytes}
use Rattle.haya_entry.specs.Tree.{Tree, node}
use Rattle.haya_selectors.specs.Binds.{bound_to}
use Rattle.haya_views.specs.Hits.{IsNextHit, hits_from}
use Rattle.haya_views.specs.InOrder.{entry_at, in_order}
use Rattle.haya_views.specs.declared.entry_id.EntryId.{EntryId}
use Rattle.haya_views.specs.declared.hits.Found.{Found}
use Rattle.hayagriva_c.specs.Hits.{AllSlots, Gives, IsSlot, NextGives, SlotIs}
use Rattle.hayagriva_c.specs.declared.content.Asked.{Asked}

-- an entry is the first of those in order
own_first : (t : Tree) → slice_get (in_order t) 0 ≡ Some t
own_first (node f ps) = refl

-- slots that are filled in one sense are in another that follows from it
all_slots_as : (Is Are : List ℕ → EntryId → Type 0) → ((name : List ℕ) (slot : EntryId) → Is name slot → Are name slot)
    → (names : List (List ℕ)) (olds news : List EntryId) → AllSlots Is names olds news → AllSlots Are names olds news
all_slots_as Is Are meets [] olds news h = h
all_slots_as Is Are meets (n ∷ ns) [] news h = h
all_slots_as Is Are meets (n ∷ ns) (o ∷ os) [] h = absurd h
all_slots_as Is Are meets (n ∷ ns) (o ∷ os) (m ∷ ms) h = (meets n m h.0, all_slots_as Is Are meets ns os ms h.1)

pub gives_next : (library : List Tree) (asked : Asked) (found : Found) (code from to : ℕ) (old new : EntryId) (olds news : List EntryId)
    → IsNextHit asked.selector library from found → Gives library asked found code from to old new olds news
    → NextGives (Some library) (Some asked) code from to old new olds news
gives_next library asked found code from to old new olds news hit given =
    elim given as (λ _. NextGives (Some library) (Some asked) code from to old new olds news) [
      | inl g ↦ inl (
        g.0,
        record {
          entry = hit.entry;
          at = ap (entry_at library) g.1.1.0 ∙ ap (option_and_then (λ t. slice_get (in_order t) 0)) hit.at ∙ own_first hit.entry;
          own = ap (λ id. id.step) g.1.1.0;
          first = hit.first ∙ ap (λ n. hit.entry ∷ hits_from asked.selector library n) (sym g.1.0);
          bound = all_slots_as (IsSlot library found) (λ name slot. SlotIs library (bound_to asked.selector hit.entry name) slot)
              (λ name slot is. is asked.selector hit.entry hit.at hit.bound) (map string_bytes asked.names.items) olds news g.1.1.1;
        },
      )
      | inr g ↦ inr (inr g)
    ]
