use Rattle.std.proofs.Common.{◌≡◌, ◌<◌, Some, length, map, ap, sym, subst, ◌∙◌, below_more, arith}
use Rattle.std.specs.Prelude.{slice_get, unwrap_or}
use Rattle.std.proofs.lemmas.List.{length-map}
use Rattle.std.proofs.lemmas.Option.{slice_get_within}
use Rattle.haya_entry.specs.Tree.{view}
use Rattle.haya_views.proofs.Orders.{seen, seen_item}
use Rattle.haya_views.proofs.hits.place_of.Goals as goal

pub returns-then-eq : goal.returns-then-eq
returns-then-eq c =
    let e = c.index-entries-place.result in
    seen_item c.args.entries.now c.entries.place e c.entries-test.true (sym c.index-entries-place.is)
    ∙ ap Some ((c.entries_equal_by_value.ensures e.now c.args.wanted.now).0 (sym c.eq.ensures ∙ c.if-eq.true))

pub entries-preserved : goal.entries-preserved
entries-preserved c =
    let e = c.index-entries-place.result in
    below_more (λ k. slice_get (map seen c.args.entries.now) k ≡ Some (view c.args.wanted.now) → ⊥) c.entries.place c.entries.invariant (λ h.
    let there = seen_item c.args.entries.now c.entries.place e c.entries-test.true (sym c.index-entries-place.is) in
    let same : view e.now ≡ view c.args.wanted.now = ap (λ o. unwrap_or o (view e.now)) (sym there ∙ h) in
    let equal = c.eq.ensures ∙ (c.entries_equal_by_value.ensures e.now c.args.wanted.now).1 same in
    let no = sym c.if-eq.false ∙ equal in
    cc)

pub returns : goal.returns
returns c = λ k h.
    let within : k < length c.args.entries.now = subst (λ n. k < n) (length-map c.args.entries.now seen) (slice_get_within (map seen c.args.entries.now) k _ h) in
    c.entries.invariant k (omega (arith, within, c.entries-test.false)) h
