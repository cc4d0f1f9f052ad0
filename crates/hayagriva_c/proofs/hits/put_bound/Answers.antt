use Rattle.std.proofs.Common.{◌≡◌, ◌<◌, ◌≤◌, Some, length, map, add-one, ap, refl, sym, ◌∙◌, length-set, arith}
use Rattle.std.specs.Prelude.{option_map, slice_get, string_bytes}
use Rattle.std.proofs.lemmas.Option.{slice_get-map, slice_get_read}
use Rattle.hayagriva_c.specs.Hits.{IsSlot}
use Rattle.hayagriva_c.proofs.Slots.{all_slots, slot_more}
use Rattle.hayagriva_c.proofs.hits.put_bound.Goals as goal

pub slots-preserved : goal.slots-preserved
slots-preserved c =
    let items = c.args.asked.now.names.items in
    let k = c.slots.k in
    let slot = c.in_ok-bound.field-0 in
    let name = c.as_str.result.now in
    let within : k < length items = omega arith in
    let room : k < length c.args.bound.now = omega arith in
    let item : slice_get items k ≡ Some c.index-name.result.now = slice_get_read items (length items) k c.index-name.result.now refl within c.index-name.ensures in
    let at : slice_get (map string_bytes items) k ≡ Some name = slice_get-map string_bytes items k ∙ ap (option_map string_bytes) item ∙ ap Some (sym c.as_str.ensures.value) in (
      omega arith,
      (
        length-set c.slots.bound k slot ∙ c.slots.invariant.1.0,
        rw add-one (slot_more (IsSlot c.args.shelf.now.library c.args.found.now) (map string_bytes items) c.args.bound.now c.slots.bound k name slot at room c.slots.invariant.1.1 c.in_ok-bound.ensures),
      ),
    )

pub returns-after-slots : goal.returns-after-slots
returns-after-slots c =
    let full : c.slots.k < length c.args.bound.now → length (map string_bytes c.args.asked.now.names.items) ≤ c.slots.k =
    λ (less : c.slots.k < length c.args.bound.now). absurd (omega arith) in
    all_slots (IsSlot c.args.shelf.now.library c.args.found.now) (map string_bytes c.args.asked.now.names.items) c.args.bound.now c.slots.bound c.slots.k c.slots.invariant.1.1 full
