use Rattle.std.proofs.Common.{◌≡◌, ◌+◌, inl, inr, suc, true, false, cond, None, Some, drop, ap, sym, ◌∙◌, add-one, arith}
use Rattle.std.specs.Prelude.{find, option_and_then, slice_get}
use Rattle.std.specs.Str.{bytes_eq}
use Rattle.std.proofs.lemmas.Option.{slice_get_cases}
use Rattle.haya_entry.proofs.LevelLemmas.{from_place}
use Rattle.haya_entry.specs.Tree.{view}
use Rattle.hayagriva.specs.Library.{get, has_key}
use Rattle.haya_views.specs.InOrder.{in_order}
use Rattle.haya_views.proofs.Orders.{first_is}
use Rattle.haya_views.proofs.entries.entry_of_key.Goals as goal

pub returns-in_default : goal.returns-in_default
returns-in_default c = elim (slice_get_cases c.args.library.now c.entries.place).1 [
  | inl w ↦ absurd (let no : None ≡ Some w.0 = c.in_default.ensures ∙ w.2 in cc)
  | inr past ↦ absurd (omega (arith, past.0, c.entries-test.true, c.len-place-end.ensures))
]

pub returns-then-eq : goal.returns-then-eq
returns-then-eq c =
    let library = c.args.library.now in
    let n = c.entries.place in
    let t = view c.in-Some.entry.now in
    let p = has_key c.args.key.now in
    let some : slice_get library n ≡ Some t = sym c.in-Some.ensures in
    let holds : p t ≡ true = ap (λ k. bytes_eq c.args.key.now k) (sym c.key.ensures) ∙ sym c.eq.ensures ∙ c.if-eq.true in
    let found : get c.args.key.now library ≡ Some t =
    c.entries.invariant ∙ ap (find p) (from_place library n t some) ∙ ap (λ b. cond b (Some t) (find p (drop (suc n) library))) holds in
    (ap (option_and_then (λ u. slice_get (in_order u) 0)) some ∙ first_is t ∙ sym found, λ none. (let no : Some t ≡ None = sym found ∙ none in cc))

pub entries-preserved : goal.entries-preserved
entries-preserved c =
    let library = c.args.library.now in
    let n = c.entries.place in
    let t = view c.in-Some.entry.now in
    let p = has_key c.args.key.now in
    let some : slice_get library n ≡ Some t = sym c.in-Some.ensures in
    let fails : p t ≡ false = ap (λ k. bytes_eq c.args.key.now k) (sym c.key.ensures) ∙ sym c.eq.ensures ∙ c.if-eq.false in
    let next : find p library ≡ find p (drop (n + 1) library) =
    rw add-one (c.entries.invariant ∙ ap (find p) (from_place library n t some) ∙ ap (λ b. cond b (Some t) (find p (drop (suc n) library))) fails) in
    next
