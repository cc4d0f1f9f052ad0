use Rattle.std.proofs.Common.{◌≡◌, ◌<◌, ℕ, Some, None, ◌++◌, ◌∷◌, [], ◌∙◌, ap, arith, cond, length, map, refl, sym, string_bytes}
use Rattle.std.specs.Prelude.{is_ok, position}
use Rattle.std.specs.Option.{option_copied}
use Rattle.std.specs.Str.{bytes_eq}
use Rattle.std.proofs.Math.Seq.{get_or-append_seam}
use Rattle.std.proofs.lemmas.Map.Text.{btree_map_updates_str}
use Rattle.std.proofs.lemmas.List.{get_or_append_left, length-append, length-map, map-append}
use Rattle.haya_selectors.specs.Compiled.{name_of, syntax_in}
use Rattle.haya_selectors.specs.Nodes.{slot_names}
use Rattle.haya_selectors.proofs.Growth.{keeps_same}
use Rattle.haya_selectors.proofs.Marks.{marked_names_if}
use Rattle.haya_selectors.proofs.NodeLists.{all_more_slots, names_keep}
use Rattle.haya_selectors.proofs.SlotNames.{place_found, place_missing, places_with}
use Rattle.haya_selectors.proofs.nodes.Nodes.slot_of.Goals as goal

pub returns-in-Some-clause-slot : goal.returns-in-Some-clause-slot
returns-in-Some-clause-slot c =
    let s = c.args.self.now in
    let name = c.args.name.now in
    let e : position (bytes_eq name) (slot_names s) ≡ Some c.in-Some.slot.now = sym (c.requires name) ∙ sym c.get.ensures.value ∙ ap option_copied c.in-Some.is in
    let there = place_found name (slot_names s) c.in-Some.slot.now e in
    record {
      keeps = keeps_same s;
      count = refl;
      inside = there.inside;
      named = there.named;
      added = rw there.known refl;
    }

pub invariant_of-self-2 : goal.invariant_of-self-2
invariant_of-self-2 c =
    let s = c.args.self.now in
    record {
      fit = all_more_slots (length s.names.items) (length c.push.new.self.items) 0 s.nodes.items (omega (arith, c.push.ensures.lower_bound, s.names.ok.0, c.push.new.self.ok.0)) s.fit;
      marked = rw c.push.ensures.items (marked_names_if string_bytes s.names.items c.in_ok-from_str.field-0 (is_ok c.push.result) s.nodes.items s.simple.items s.fit s.marked);
    }

pub returns-clause-slot : goal.returns-clause-slot
returns-clause-slot c =
    let s = c.args.self.now in
    let name = c.args.name.now in
    let old = slot_names s in
    let none : position (bytes_eq name) old ≡ None = sym (c.requires name) ∙ sym c.get.ensures.value ∙ ap option_copied c.in_default.is in
    let missing = place_missing name old none in
    let new = map string_bytes c.push.new.self.items in
    let grown : new ≡ old ++ name ∷ [] =
    ap (map string_bytes) c.in_ok-push.ensures.items ∙ map-append string_bytes s.names.items (c.in_ok-from_str.field-0 ∷ []) ∙ ap (λ n. old ++ n ∷ []) c.in_ok-from_str.ensures.ok in
    let slot : c.len-slot.result ≡ length old = c.len-slot.ensures ∙ s.names.ok.0 ∙ sym (length-map s.names.items string_bytes) in
    let same : (i : ℕ) → i < length old → name_of new i ≡ name_of old i = λ i h. ap (λ l. name_of l i) grown ∙ get_or_append_left old (name ∷ []) [] i h in
    let longer = ap length grown ∙ length-append old (name ∷ []) in
    record {
      keeps = record {
        count = omega arith;
        slots = omega (arith, longer);
        names = same;
        syntaxes = λ i h. ap (λ l. syntax_in l i) (names_keep new old (length old) same s.nodes.items (rw length-map s.fit));
      };
      count = refl;
      inside = omega (arith, longer, slot);
      named = ap (name_of new) slot ∙ ap (λ l. name_of l (length old)) grown ∙ get_or-append_seam old name [] [];
      added = rw missing grown;
    }

pub returns-clause-slots : goal.returns-clause-slots
returns-clause-slots c =
    let s = c.args.self.now in
    let name = c.args.name.now in
    let old = slot_names s in
    let none : position (bytes_eq name) old ≡ None = sym (c.requires name) ∙ sym c.get.ensures.value ∙ ap option_copied c.in_default.is in
    let slot : c.len-slot.result ≡ length old = c.len-slot.ensures ∙ s.names.ok.0 ∙ sym (length-map s.names.items string_bytes) in
    let grown : map string_bytes c.push.new.self.items ≡ old ++ name ∷ [] =
    ap (map string_bytes) c.in_ok-push.ensures.items ∙ map-append string_bytes s.names.items (c.in_ok-from_str.field-0 ∷ []) ∙ ap (λ n. old ++ n ∷ []) c.in_ok-from_str.ensures.ok in
    λ q.
    btree_map_updates_str name c.args.slots.now c.insert.new.self _ c.in_ok-insert.ensures.updates q
    ∙ ap (cond (bytes_eq name q) (Some c.len-slot.result)) (c.requires q)
    ∙ ap (λ n. cond (bytes_eq name q) (Some n) (position (bytes_eq q) old)) slot
    ∙ places_with old name q none
    ∙ ap (position (bytes_eq q)) (sym grown)
