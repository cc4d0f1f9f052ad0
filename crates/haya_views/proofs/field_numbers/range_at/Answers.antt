use Rattle.std.proofs.Common.{◌≡◌, ◌<◌, ◌+◌, ◌∷◌, None, Some, drop, get_or, length, map, ap, subst, sym, ◌∙◌, arith}
use Rattle.std.specs.Prelude.{slice_get}
use Rattle.std.specs.List.{filter_map}
use Rattle.haya_numbers.specs.Pages.{part_view}
use Rattle.haya_views.specs.Numbers.{pages_of}
use Rattle.haya_views.proofs.Behind.{from_item, get_next, kept_from, passed_from}
use Rattle.haya_views.proofs.field_numbers.range_at.Goals as goal
use Rattle.haya_views.proofs.field_numbers.range_at.Goals.{in-Some-2, in-None}

pub returns-in-Some : goal.returns-in-Some
returns-in-Some c =
    let items = c.args.pages.now.ranges.items in
    let k = c.parts.part-index in
    let part = c.part-item.result in
    let e = c.deref-part-items.ensures.value in
    let rest = drop (k + 1) (map part_view items) in
    let within : k < length items = subst (λ l. k < length l) e c.parts-test.true in
    let is : get_or items k part ≡ part = subst (λ l. get_or l k part ≡ part) e (sym c.part-item.is) in
    let found : pages_of (part_view part) ≡ Some c.in-Some.range = sym c.pages_of.ensures ∙ c.in-Some.is in
    sym
    (c.parts.invariant
    ∙ ap (λ l. slice_get (filter_map pages_of l) c.parts.left) (from_item part_view items k part within is)
    ∙ ap (λ l. slice_get l c.parts.left) (kept_from pages_of (part_view part) rest c.in-Some.range found)
    ∙ ap (slice_get (c.in-Some.range ∷ filter_map pages_of rest)) c.if-left-eq0.true)

pub parts-preserved : goal.parts-preserved
parts-preserved c =
    let items = c.args.pages.now.ranges.items in
    let k = c.parts.part-index in
    let part = c.part-item.result in
    let e = c.deref-part-items.ensures.value in
    let rest = drop (k + 1) (map part_view items) in
    let within : k < length items = subst (λ l. k < length l) e c.parts-test.true in
    let is : get_or items k part ≡ part = subst (λ l. get_or l k part ≡ part) e (sym c.part-item.is) in
    let from = c.parts.invariant ∙ ap (λ l. slice_get (filter_map pages_of l) c.parts.left) (from_item part_view items k part within is) in
    elim c.match-pages_of.branch [
      | in-Some-2 w ↦
          (let found : pages_of (part_view part) ≡ Some w.in-Some.range = sym c.pages_of.ensures ∙ w.in-Some.is in
          from ∙ ap (λ l. slice_get l c.parts.left) (kept_from pages_of (part_view part) rest w.in-Some.range found)
          ∙ get_next w.in-Some.range (filter_map pages_of rest) c.parts.left c.match-pages_of.left (omega (arith, w.left-is, w.if-left-eq0.false)))
      | in-None w ↦
          (let found : pages_of (part_view part) ≡ None = sym c.pages_of.ensures ∙ w.in-None.is in
          from ∙ ap (λ l. slice_get l c.parts.left) (passed_from pages_of (part_view part) rest found) ∙ ap (slice_get (filter_map pages_of rest)) (sym w.left-is))
    ]
