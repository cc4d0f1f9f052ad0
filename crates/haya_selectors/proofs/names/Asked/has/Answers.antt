use Rattle.std.proofs.Common.{◌≡◌, arith, rules, w32}
use Rattle.std.specs.Prelude.{bit_and}
use Rattle.std.specs.Int.{bit_not}
use Rattle.std.proofs.lemmas.Bool.Decides.{nat_tests}
use Rattle.haya_entry.specs.Tree.{view}
use Rattle.haya_selectors.proofs.NameSets.{set_tells, within_set}
use Rattle.haya_selectors.proofs.names.Asked.has.Goals as goal

pub returns-then-not-names : goal.returns-then-not-names
returns-then-not-names c =
    let s = c.names.inside in
    let a = c.self.inside in
    let zero : bit_and s.fields (bit_not w32 a.asked) ≡ 0 = grind (arith, nat_tests, c.if-names-self-eq0.true) in
    set_tells s.fields s.unknown c.args.names.now (view c.args.self.now) a.asked a.had (omega arith) (omega arith) (search rules)
    (rw c.names.view_is at c.names.invariant) (rw c.self.view_is at c.self.invariant) (within_set s.fields a.asked (omega arith) (omega arith) zero)
