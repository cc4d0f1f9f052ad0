use Rattle.std.proofs.Common.{◌≡◌, ◌≤◌, ◌∙◌, ◌++◌, ◌∷◌, [], ap, arith, false, map, rules, subst, sym, take}
use Rattle.std.proofs.lemmas.List.{map-append}
use Rattle.std.proofs.lemmas.List.Elements.{All-pop}
use Rattle.haya_selectors.specs.declared.selector.Selector.{size-Selector}
use Rattle.haya_selectors.specs.BoundNames.{all_bound_names, bound_names, later_names}
use Rattle.haya_selectors.specs.Nodes.{AddsNames, chain_at, node_count, syntax_at}
use Rattle.haya_selectors.specs.Side.{is_end, with_first, wrapped}
use Rattle.haya_selectors.specs.Syntax.{Ancestrage, members_of, syntax, syntaxes}
use Rattle.haya_selectors.proofs.Growth.{chain_added, keeps_all, keeps_then}
use Rattle.haya_selectors.proofs.NodeLists.{above_push, map_more}
use Rattle.haya_selectors.proofs.Sides.{wrapped_push}
use Rattle.haya_selectors.proofs.SlotNames.{adds_then, all_bound_names-push, bound_names-first}
use Rattle.haya_selectors.proofs.Syntaxes.{over, syntax-ancestrage}
use Rattle.haya_selectors.proofs.nodes.Nodes.+compile.Goals as goal

pub add-up-preserved-in-Ancestrage : goal.add-up-preserved-in-Ancestrage
add-up-preserved-in-Ancestrage t c =
    let a = c.args.self.now in
    let b = c.up.self in
    let d = c.add.new.self in
    let left = c.pop.new.self.items in
    let form = c.in-Some.form in
    let others = c.up.others.items in
    let below = chain_at b c.up.first others in
    let e : c.up.above.items ≡ left ++ form ∷ [] = search rules in
    let h = c.in_ok-add.ensures in
    let n = c.in_ok-add.field-0 in
    let inv = c.up.invariant in
    let ends = All-pop (λ s. is_end (syntax s.now) ≡ false) c.up.above.items left c.pop.result c.pop.ensures.items inv.5 in
    let parent = syntax c.deref.result.now in
    let child = syntax c.in-Ancestrage.field-0.value in
    let same : c.deref.result.now ≡ c.in-Ancestrage.parent.value = search rules in
    let is : syntax form.now ≡ Ancestrage child parent = ap syntax c.in-Ancestrage.is ∙ syntax-ancestrage _ _ ∙ ap (λ s. Ancestrage child (syntax s)) (sym same) in
    let whole : chain_at d c.up.first c.push.new.self.items ≡ with_first (syntax form.now) below =
    chain_added b d c.up.first others c.push.new.self.items n h.stands.keeps inv.1 inv.2 c.in_ok-push.ensures.items
    ∙ ap (Ancestrage below) h.stands.stands ∙ sym (ap (λ s. with_first s below) is) in (
      keeps_then a b d inv.0 h.stands.keeps,
      omega (arith, inv.1, h.stands.keeps.count),
      rw c.in_ok-push.ensures.items (above_push others n (node_count d) (omega (arith, inv.2, h.stands.keeps.count)) h.stands.inside),
      ap (wrapped left) whole ∙ sym (wrapped_push left form below) ∙ ap (λ ss. wrapped ss below) (sym e) ∙ inv.3,
      (All-pop (λ s. size-Selector s.now ≤ size-Selector c.args.selector.now) c.up.above.items left c.pop.result c.pop.ensures.items inv.4).0,
      ends.0,
      rw (whole, is) (adds_then a b d (bound_names below) (bound_names parent) inv.6 h.names),
      h.slots,
    )

pub add-up-preserved : goal.add-up-preserved
add-up-preserved t c =
    let a = c.args.self.now in
    let b = c.up.self in
    let m = c.add_chain.new.self in
    let d = c.add_over.new.self in
    let left = c.pop.new.self.items in
    let form = c.in-Some.form in
    let below = chain_at b c.up.first c.up.others.items in
    let e : c.up.above.items ≡ left ++ form ∷ [] = search rules in
    let g = c.in_ok-first-2.ensures in
    let h = c.in_ok-first-3.ensures in
    let inv = c.up.invariant in
    let ends = All-pop (λ s. is_end (syntax s.now) ≡ false) c.up.above.items left c.pop.result c.pop.ensures.items inv.5 in
    let no_end : is_end (syntax form.now) ≡ false = rw c.in-Some.is at ends.1 in
    let none : c.new-others-in-Some.result.items ≡ [] = search rules in
    let whole : chain_at d c.in_ok-first-3.first c.new-others-in-Some.result.items ≡ with_first (syntax form.now) below =
    ap (chain_at d c.in_ok-first-3.first) none ∙ h.stands.stands ∙ ap (with_first (syntax form.now)) g.stands.stands in
    let before : AddsNames a m (bound_names below) = c.add_chain.ensures.names ∙ inv.6 in
    let names = adds_then a m d (bound_names below) (later_names (syntax form.now)) before h.names in (
      keeps_then a b d inv.0 (keeps_then b m d g.stands.keeps h.stands.keeps),
      h.stands.inside,
      rw none (omega arith),
      ap (wrapped left) whole ∙ sym (wrapped_push left form below) ∙ ap (λ ss. wrapped ss below) (sym e) ∙ inv.3,
      (All-pop (λ s. size-Selector s.now ≤ size-Selector c.args.selector.now) c.up.above.items left c.pop.result c.pop.ensures.items inv.4).0,
      ends.0,
      subst (λ s. AddsNames a d (bound_names s)) (sym whole) (subst (λ l. AddsNames a d l) (sym (bound_names-first (syntax form.now) below no_end)) names),
      h.slots,
    )

pub add_all-rest-preserved : goal.add_all-rest-preserved
add_all-rest-preserved t c =
    let a = c.rest.self in
    let b = c.add.new.self in
    let rest = c.in-Some.rest.now in
    let numbers = c.rest.numbers.items in
    let n = c.in_ok-add.field-0 in
    let h = c.in_ok-add.ensures in
    let inv = c.rest.invariant in
    let e = c.in_ok-push-2.ensures.items in
    let first = syntax_at c.args.self.now c.args.first in
    let before = take c.rest.member-index rest in
    let item = syntax c.member-item.result in
    let more = map_more syntax rest c.rest.member-index c.member-item.result c.rest-test.true c.member-item.is in
    let names = ap (λ l. all_bound_names (syntaxes l)) more ∙ all_bound_names-push (map syntax before) item in (
      keeps_then c.args.self.now a b inv.0 h.stands.keeps,
      rw e (above_push numbers n (node_count b) (omega (arith, inv.1, h.stands.keeps.count)) h.stands.inside),
      ap (map (syntax_at b)) e ∙ map-append (syntax_at b) numbers (n ∷ [])
          ∙ ap (λ l. l ++ syntax_at b n ∷ []) (keeps_all a b numbers h.stands.keeps inv.1 ∙ inv.2)
          ∙ ap (λ s. first ∷ map syntax before ++ s ∷ []) h.stands.stands
          ∙ ap (λ l. first ∷ l) (sym more),
      rw names (adds_then c.args.self.now a b (all_bound_names (members_of before)) (bound_names item) inv.3 h.names),
      h.slots,
    )

pub add-add_over-requires : goal.add-add_over-requires
add-add_over-requires t c =
    let left = c.pop.new.self.items in
    let form = c.in-Some.form in
    let inv = c.up.invariant in
    let depths = All-pop (λ s. size-Selector s.now ≤ size-Selector c.args.selector.now) c.up.above.items left c.pop.result c.pop.ensures.items inv.4 in
    let ends = All-pop (λ s. is_end (syntax s.now) ≡ false) c.up.above.items left c.pop.result c.pop.ensures.items inv.5 in
    let no_deeper : size-Selector form.now ≤ size-Selector c.args.selector.now = rw c.in-Some.is at depths.1 in
    let no_end : is_end (syntax form.now) ≡ false = rw c.in-Some.is at ends.1 in
    (omega (arith, no_deeper), (c.in_ok-first-2.ensures.stands.inside, (over form.now no_end c.in_default-form.not-Ancestrage, rw c.add_chain.ensures.names inv.7)))
