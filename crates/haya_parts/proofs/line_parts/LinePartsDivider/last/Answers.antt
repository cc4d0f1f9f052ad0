use Rattle.std.proofs.Common.{◌≡◌, ◌<◌, length, rules, arith}
use Rattle.std.proofs.lemmas.Bool.Decides.{nat_tests}
use Rattle.haya_parts.proofs.LineEnds.{last_line, last_none, looked_none, looked_within}
use Rattle.haya_parts.proofs.line_parts.LinePartsDivider.last.Goals as goal

pub line_end-requires-clause-within : goal.line_end-requires-clause-within
line_end-requires-clause-within c =
    looked_within c.args.self.now c.requires.0 c.args.held.now c.requires.1 c.requires.2

pub line_end-requires-clause-none : goal.line_end-requires-clause-none
line_end-requires-clause-none c =
    looked_none c.args.self.now c.requires.0 c.args.held.now c.requires.1 c.requires.2

pub returns-in-None : goal.returns-in-None
returns-in-None c = record {
  ends = λ taken parts begins.
      let none : length c.args.held.now ≡ 0 = search rules in
      last_none c.args.self.now taken c.args.held.now parts begins none;
}

pub returns-in-None-2 : goal.returns-in-None-2
returns-in-None-2 c = record {
  ends = λ taken parts begins.
      let some : 0 < length c.args.held.now =
      grind (arith, nat_tests, c.if-is_empty.ensures) in
      last_line c.args.self.now taken c.args.held.now parts begins c.in-None-2.ensures.none some;
}
