use Rattle.std.proofs.Common.{◌≡◌, ◌+◌, ◌++◌, ◌<◌, ◌∷◌, [], ℕ, List, Bor, cond, get_or, length, ap, sym, ◌∙◌, arith, rules, Some, map, take}
use Rattle.std.specs.Prelude.{string_bytes}
use Rattle.std.specs.Str.{bytes_eq}
use Rattle.std.proofs.lemmas.List.{length-map, take_more, take-map, map-append}
use Rattle.std.proofs.lemmas.Map.Text.{hash_map_updates_text}
use Rattle.std.proofs.lemmas.Simd.{map-map}
use Rattle.std.proofs.Math.Seq.{take-length}
use Rattle.haya_entry.specs.declared.entry.Entry.{Entry}
use Rattle.haya_selectors.specs.Binds.{last_of}
use Rattle.haya_selectors.specs.Compiled.{name_of}
use Rattle.haya_selectors.specs.Evaluation.{named_pairs}
use Rattle.haya_selectors.specs.Nodes.{slot_names}
use Rattle.haya_selectors.proofs.Lasts.{last_of-push}
use Rattle.haya_selectors.proofs.Options.{option_map-cond}
use Rattle.haya_selectors.proofs.bindings.Bindings.to_map.Goals as goal

last_more : (q : List ℕ) (name : ℕ → List ℕ) (items : List (ℕ × Bor Entry)) (i : ℕ) (x : ℕ × Bor Entry) → i < length items → x ≡ get_or items i x
    → cond (bytes_eq (name x.0) q) (Some x.1.now) (last_of q (take i (map (λ p. (name p.0, p.1.now)) items)))
    ≡ last_of q (take (i + 1) (map (λ p. (name p.0, p.1.now)) items))
last_more q name items i x h e =
    let t : take (i + 1) items ≡ take i items ++ x ∷ [] = take_more items i x h ∙ ap (λ y. take i items ++ y ∷ []) (sym e) in
    rw (take-map, take-map, t, map-append) (sym (last_of-push q (map (λ p. (name p.0, p.1.now)) (take i items)) (name x.0) x.1.now))

pub loop-slot-preserved : goal.loop-slot-preserved
loop-slot-preserved c = λ q.
    let x = c.loop-slot-item.result in
    let name = name_of (slot_names c.args.nodes.now) in
    let k : string_bytes c.in_ok-from_str.field-0 ≡ name x.0 = c.in_ok-from_str.ensures.ok ∙ c.name.ensures in
    let u = hash_map_updates_text (string_bytes c.in_ok-from_str.field-0) c.loop-slot.map c.insert.new.self (Some x.1) c.in_ok-insert.ensures.updates q in
    rw (u, k, option_map-cond, c.loop-slot.invariant q) (last_more q name c.deref-slot-items.result.now c.loop-slot.slot-index x (omega arith) (search rules))

pub returns : goal.returns
returns c =
    let names = slot_names c.args.nodes.now in
    let items = c.self.inside.pairs.items in
    let read : c.deref-slot-items.result.now ≡ items = c.deref-slot-items.ensures.value in
    let at_end : c.loop-slot.slot-index ≡ length items = omega (arith, ap length read) in
    let named : ℕ × Bor Entry → List ℕ × Entry = λ p. (name_of names p.0, p.1.now) in
    let all : take c.loop-slot.slot-index (map named c.deref-slot-items.result.now) ≡ named_pairs names c.args.self.now =
    ap (λ l. take c.loop-slot.slot-index (map named l)) read ∙ ap (λ n. take n (map named items)) (at_end ∙ sym (length-map items named))
    ∙ take-length (map named items) ∙ sym (map-map (λ p. (name_of names p.0, p.1)) (λ p. (p.0, p.1.now)) items) ∙ ap (named_pairs names) c.self.view_is in
    λ q. c.loop-slot.invariant q ∙ ap (last_of q) all
