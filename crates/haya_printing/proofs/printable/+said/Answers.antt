use Rattle.std.proofs.Common.{◌≡◌, ◌+◌, ◌++◌, ◌∷◌, [], ◌∙◌, ap, arith, map, subst, sym, take}
use Rattle.std.specs.Prelude.{option_map}
use Rattle.std.proofs.lemmas.List.{map-append, take_more}
use Rattle.haya_entry.specs.Tree.{parents, trees, view}
use Rattle.haya_entry.proofs.Trees.{parents_is}
use Rattle.haya_printing.specs.LeftOut.{SaysParts}
use Rattle.haya_printing.proofs.Saying.{no_line_said, none_said, one_more_said, over_said, size_above, size_within}
use Rattle.haya_printing.proofs.printable.+said.Goals as goal

pub said_part-said_parts-requires : goal.said_part-said_parts-requires
said_part-said_parts-requires t c =
    let e = c.args.entry.now in
    let under : map view c.as_slice.result.now ≡ parents (view e) = ap (map view) c.as_slice.ensures.value ∙ sym (parents_is e) in
    let less = size_above (view e) (map view c.as_slice.result.now) under in
    (omega (arith, less, c.decreases), tt)

pub said_parts-said_part-requires : goal.said_parts-said_part-requires
said_parts-said_part-requires t c =
    let less = size_within view c.args.parents.now c.parents.parent-index c.parent-item.result c.parents-test.true c.parent-item.is in
    (omega (arith, less, c.decreases), tt)

pub said_part-returns-in_ok-whole : goal.said_part-returns-in_ok-whole
said_part-returns-in_ok-whole t c =
    let e = c.args.entry.now in
    let under : map view c.as_slice.result.now ≡ parents (view e) = ap (map view) c.as_slice.ensures.value ∙ sym (parents_is e) in
    over_said _ _ _ _ (view e) (view c.in_ok-part.part) (view c.in_ok-whole.whole) (map view c.as_slice.result.now) _ c.key.result.now under c.key.ensures c.in_ok-part.ensures c.in_ok-parents.ensures c.in_ok-whole.ensures

pub said_part-returns-in_ok-name_part : goal.said_part-returns-in_ok-name_part
said_part-returns-in_ok-name_part t c =
    no_line_said _ _ (view c.args.entry.now) c.key-else-branch.result.now c.key-else-branch.ensures (c.in_ok-has_line.ensures.no c.if-branch.false) c.in_ok-name_part.ensures

pub said_parts-parents-init : goal.said_parts-parents-init
said_parts-parents-init t c = none_said c.args.left_out.now (map view c.new-parts.result.items) (ap (map view) c.new-parts.ensures.items)

pub said_parts-parents-preserved : goal.said_parts-parents-preserved
said_parts-parents-preserved t c =
    let parents = c.args.parents.now in
    let i = c.parents.parent-index in
    let e = c.parent-item.result in
    let more : map view (take (i + 1) parents) ≡ map view (take i parents) ++ view e ∷ [] =
    ap (map view) (take_more parents i e c.parents-test.true ∙ ap (λ x. take i parents ++ x ∷ []) (sym c.parent-item.is)) ∙ map-append view (take i parents) (e ∷ []) in
    subst (λ l. SaysParts c.args.left_out.now c.said_part.new.left_out (trees l) (trees (map view c.put_part.new.parts.items))) (sym more)
    (one_more_said _ _ _ (map view (take i parents)) (map view c.parents.parts.items) (map view c.put_part.new.parts.items) (view e) (option_map view c.in_ok-part.part)
    c.parents.invariant c.in_ok-part.ensures c.in_ok-put_part.ensures)
