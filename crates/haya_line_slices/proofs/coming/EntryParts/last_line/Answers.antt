use Rattle.std.proofs.Common.{◌≡◌, ◌<◌, length, rules, arith}
use Rattle.std.proofs.lemmas.Bool.Decides.{nat_tests}
use Rattle.haya_line_slices.proofs.EntryEnds.{front-ended, line-ended, looked-none, looked-within}
use Rattle.haya_line_slices.proofs.coming.EntryParts.last_line.Goals as goal

pub line_end-requires-clause-within : goal.line_end-requires-clause-within
line_end-requires-clause-within c =
    looked-within c.args.self.now c.requires.begun.0 c.args.held.now c.requires.begun.1 c.requires.begun.2

pub line_end-requires-clause-none : goal.line_end-requires-clause-none
line_end-requires-clause-none c =
    looked-none c.args.self.now c.requires.begun.0 c.args.held.now c.requires.begun.1 c.requires.begun.2
    c.requires.place

pub returns-then-is_empty : goal.returns-then-is_empty
returns-then-is_empty c = λ taken parts begins.
    let none : length c.args.held.now ≡ 0 = search rules in
    front-ended c.args.self.now taken c.args.held.now parts begins c.requires.place none

pub returns-in-None : goal.returns-in-None
returns-in-None c = λ taken parts begins.
    let some : 0 < length c.args.held.now = grind (arith, nat_tests, c.if-is_empty.ensures) in
    line-ended c.args.self.now taken c.args.held.now parts begins c.requires.place
    (search rules) c.in-None.ensures.none some
