use Rattle.std.proofs.Common.{◌≡◌, ◌<◌, ◌+◌, drop, get_or, length, map, ap, subst, sym, ◌∙◌, arith}
use Rattle.std.specs.Prelude.{is_some}
use Rattle.std.specs.List.{filter_map}
use Rattle.haya_numbers.specs.Pages.{part_view}
use Rattle.haya_views.specs.Numbers.{pages_of}
use Rattle.haya_views.proofs.Behind.{from_item, none_kept, one_kept}
use Rattle.haya_views.proofs.field_numbers.ranges_in.Goals as goal
use Rattle.haya_views.proofs.field_numbers.ranges_in.Goals.{then-is_some, else-is_some}

pub parts-preserved : goal.parts-preserved
parts-preserved c =
    let items = c.args.pages.now.ranges.items in
    let k = c.parts.part-index in
    let part = c.part-item.result in
    let e = c.deref-part-items.ensures.value in
    let more = filter_map pages_of (drop (k + 1) (map part_view items)) in
    let within : k < length items = subst (λ l. k < length l) e c.parts-test.true in
    let is : get_or items k part ≡ part = subst (λ l. get_or l k part ≡ part) e (sym c.part-item.is) in
    let from = ap (λ l. length (filter_map pages_of l)) (from_item part_view items k part within is) in
    let some : c.is_some.result ≡ is_some (pages_of (part_view part)) = c.is_some.ensures ∙ ap (λ o. is_some o) c.pages_of.ensures in
    elim c.if-is_some.branch [
      | then-is_some w ↦
          (let kept = from ∙ one_kept (pages_of (part_view part)) more (sym some ∙ w.if-is_some.true) in
          (omega (arith, w.number-is, c.parts.invariant.0), omega (arith, w.number-is, c.parts.invariant.1, kept)))
      | else-is_some w ↦
          (let kept = from ∙ none_kept (pages_of (part_view part)) more (sym some ∙ w.if-is_some.false) in
          (omega (arith, w.number-is, c.parts.invariant.0), omega (arith, w.number-is, c.parts.invariant.1, kept)))
    ]
