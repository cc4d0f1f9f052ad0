use Rattle.std.proofs.Common.{◌≡◌, ◌∙◌, ℕ, Bool, List, Vec, Global, arith, ap, false, true, get_or, length, map, sym}
use Rattle.std.specs.Prelude.{◌&&◌, nat_le, nat_lt}
use Rattle.std.specs.List.{list_all}
use Rattle.std.proofs.lemmas.Bool.Decides.{nat_tests}
use Rattle.haya_text.proofs.Tells.{and-both}
use Rattle.haya_selectors.specs.declared.node.Node.TheVariants as variant
use Rattle.haya_selectors.specs.declared.nodes.Nodes.{Nodes}
use Rattle.haya_selectors.specs.Compiled.{above, fits}
use Rattle.haya_selectors.specs.Marks.{AreMarked}
use Rattle.haya_selectors.specs.Nodes.{slot_names, syntax_at}
use Rattle.haya_selectors.specs.Simple.{is_simple}
use Rattle.haya_selectors.specs.Syntax.{Ancestrage, chained}
use Rattle.haya_selectors.proofs.Chains.{is_simple-negations}
use Rattle.haya_selectors.proofs.Marks.{marked_at, marked_chain, marked_members}
use Rattle.haya_selectors.proofs.nodes.Nodes.stands_for_simple.Goals as goal

-- a chain of nodes that are known
marked_parts : (s : Nodes) (known : List Bool) (number l r : ℕ) (rs : Vec ℕ Global) → AreMarked (slot_names s) s.nodes.items known → length known ≡ number
    → fits (length (slot_names s)) number (variant.Ancestrage l rs r) ≡ true
    → is_simple (Ancestrage (chained (syntax_at s l) (map (syntax_at s) rs.items)) (syntax_at s r)) ≡ ((get_or known l false && list_all (λ n. get_or known n false) rs.items) && get_or known r false)
marked_parts s known number l r rs h count fit =
    let two = and-both (nat_le (above rs.items) number) (nat_lt l number && nat_lt r number) fit in
    let ends = and-both (nat_lt l number) (nat_lt r number) two.1 in
    marked_chain (slot_names s) s.nodes.items known h l r rs.items (grind (arith, nat_tests, ends.0, count)) (grind (arith, nat_tests, two.0, count)) (grind (arith, nat_tests, ends.1, count))

pub returns-in-Alt : goal.returns-in-Alt
returns-in-Alt c =
    let s = c.args.self.now in
    let e = rw c.in-Alt.is at c.at.ensures.stands in
    let fit = rw c.in-Alt.is at c.at.ensures.fits in
    rw e (rw c.deref.ensures.value at c.all_marked.ensures ∙ marked_members (slot_names s) s.nodes.items c.args.known.now c.requires.known _ (grind (arith, nat_tests, fit, c.requires.count)))

pub returns-in-Neg : goal.returns-in-Neg
returns-in-Neg c =
    let s = c.args.self.now in
    let e = rw c.in-Neg.is at c.at.ensures.stands in
    let fit = rw c.in-Neg.is at c.at.ensures.fits in
    let mark = marked_at (slot_names s) s.nodes.items c.args.known.now c.requires.known c.in-Neg.inner (grind (arith, nat_tests, fit, c.requires.count)) in
    rw (e, is_simple-negations c.in-Neg.field-1 (syntax_at s c.in-Neg.inner)) (c.is_marked.ensures ∙ mark)

pub returns-then-all_marked : goal.returns-then-all_marked
returns-then-all_marked c =
    let known = c.args.known.now in
    let parts = marked_parts c.args.self.now known c.args.number c.in-Ancestrage.child c.in-Ancestrage.parent c.in-Ancestrage.between c.requires.known c.requires.count (rw c.in-Ancestrage.is at c.at.ensures.fits) in
    let l = sym c.is_marked-in-Ancestrage.ensures ∙ c.if-is_marked.true in
    let m = sym (rw c.deref-then-is_marked.ensures.value at c.all_marked-then-is_marked.ensures) ∙ c.if-all_marked.true in
    let e = rw c.in-Ancestrage.is at c.at.ensures.stands in
    c.is_marked-then-all_marked.ensures ∙ sym (ap is_simple e ∙ parts ∙ (λ i. (l i && m i) && get_or known c.in-Ancestrage.parent false))

pub returns-else-all_marked : goal.returns-else-all_marked
returns-else-all_marked c =
    let known = c.args.known.now in
    let parts = marked_parts c.args.self.now known c.args.number c.in-Ancestrage.child c.in-Ancestrage.parent c.in-Ancestrage.between c.requires.known c.requires.count (rw c.in-Ancestrage.is at c.at.ensures.fits) in
    let l = sym c.is_marked-in-Ancestrage.ensures ∙ c.if-is_marked.true in
    let m = sym (rw c.deref-then-is_marked.ensures.value at c.all_marked-then-is_marked.ensures) ∙ c.if-all_marked.false in
    let e = rw c.in-Ancestrage.is at c.at.ensures.stands in
    c.if-all_marked.false ∙ sym (ap is_simple e ∙ parts ∙ (λ i. (l i && m i) && get_or known c.in-Ancestrage.parent false))

pub returns-else-is_marked : goal.returns-else-is_marked
returns-else-is_marked c =
    let known = c.args.known.now in
    let between = c.in-Ancestrage.between in
    let parts = marked_parts c.args.self.now known c.args.number c.in-Ancestrage.child c.in-Ancestrage.parent between c.requires.known c.requires.count (rw c.in-Ancestrage.is at c.at.ensures.fits) in
    let l = sym c.is_marked-in-Ancestrage.ensures ∙ c.if-is_marked.false in
    let e = rw c.in-Ancestrage.is at c.at.ensures.stands in
    c.if-is_marked.false ∙ sym (ap is_simple e ∙ parts ∙ (λ i. (l i && list_all (λ n. get_or known n false) between.items) && get_or known c.in-Ancestrage.parent false))
