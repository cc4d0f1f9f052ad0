use Rattle.std.proofs.Common.{rules, arith}
use Rattle.std.specs.Str.Iter.{lines_steps}
use Rattle.std.specs.Str.Lines.{lines}
use Rattle.std.proofs.lemmas.Iterator.{YieldsList}
use Rattle.std.proofs.lemmas.Iterator.Consumers.{YieldsList-end}
use Rattle.std.proofs.lemmas.Iterator.Splits.{YieldsList-from_lines}
use Rattle.haya_source_stream.proofs.reading.line_count.Goals as goal

pub returns : goal.returns
returns c =
    let road : YieldsList lines_steps (λ x. x.now) c.into_iter-iterator.result (lines c.args.part.now) = YieldsList-from_lines c.args.part.now (search rules) in
    let end = YieldsList-end road c.lines.yielded c.lines.iterator' c.lines.yielded_by c.next.result c.next.new.self c.in-None.is c.next.ensures.steps in
    omega (arith, end.1, c.lines.invariant)
