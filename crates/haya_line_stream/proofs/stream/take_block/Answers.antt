use Rattle.std.proofs.Common.{◌≡◌, ◌++◌, ◌+◌, take, ap, ◌∙◌, append_assoc, arith}
use Rattle.std.proofs.lemmas.List.{take_rest}
use Rattle.std.proofs.lemmas.Result.{err_from_is_err_and}
use Rattle.std.specs.Str.Lines.{strip_carriage_return}
use Rattle.haya_line_stream.specs.Answered.{Asked}
use Rattle.haya_line_stream.proofs.Taken.{block_line, block_stops, memory_stops}
use Rattle.haya_line_stream.proofs.stream.take_block.Goals as goal

pub lines-preserved : goal.lines-preserved
lines-preserved g c =
    let held = c.lines.held.items in
    let rest = c.lines.rest.now in
    let at = c.in-Some.end in
    let found = c.in-Some.ensures in
    let piece : c.without_return.result.now ≡ strip_carriage_return (held ++ take at rest) =
    c.without_return.ensures ∙ ap strip_carriage_return (c.as_slice.ensures.value ∙ c.in_ok-extend_from_slice.ensures.items) in
    let (more, utf8, answer, prints) = rw piece at c.in_ok-answer_line.ensures.answers in
    rw c.clear.ensures.items
    (record {
      none = λ k d within. absurd (omega arith);
      more = c.lines.invariant.more ++ more;
      takes = rw (take_rest rest (at + 1))
          (block_line (Asked g.A.Answerer.is_done g.A.Answerer.answers) _ held rest at _ _ _ c.lines.invariant.none found.within found.feed found.first c.lines.invariant.takes _ more utf8 answer);
      prints = prints ∙ ap (λ l. l ++ more) c.lines.invariant.prints ∙ append_assoc _ c.lines.invariant.more more;
    })

pub returns-in_err-extend_from_slice-clause-stops : goal.returns-in_err-extend_from_slice-clause-stops
returns-in_err-extend_from_slice-clause-stops g c =
    let p = err_from_is_err_and c.from_residual.result c.from_residual.ensures.1 in
    let stops = memory_stops (Asked g.A.Answerer.is_done g.A.Answerer.answers) g.A.Answerer.refuses _ _ _ _ _ _ c.lines.invariant.takes in
    rw (p.1, p.2) (c.lines.invariant.more, stops.0, c.lines.invariant.prints, stops.1)

pub returns-in_err-extend_from_slice-2-clause-stops : goal.returns-in_err-extend_from_slice-2-clause-stops
returns-in_err-extend_from_slice-2-clause-stops g c =
    let p = err_from_is_err_and c.from_residual-in_err-extend_from_slice-2.result c.from_residual-in_err-extend_from_slice-2.ensures.1 in
    let stops = memory_stops (Asked g.A.Answerer.is_done g.A.Answerer.answers) g.A.Answerer.refuses _ _ _ _ _ _ c.lines.invariant.takes in
    rw (p.1, p.2) (c.lines.invariant.more, stops.0, c.lines.invariant.prints, stops.1)

pub returns-in_err-answer_line-clause-stops : goal.returns-in_err-answer_line-clause-stops
returns-in_err-answer_line-clause-stops g c =
    let p = err_from_is_err_and c.from_residual-in_err-answer_line.result c.from_residual-in_err-answer_line.ensures.1 in
    let held = c.lines.held.items in
    let rest = c.lines.rest.now in
    let at = c.in-Some.end in
    let found = c.in-Some.ensures in
    let piece : c.without_return.result.now ≡ strip_carriage_return (held ++ take at rest) =
    c.without_return.ensures ∙ ap strip_carriage_return (c.as_slice.ensures.value ∙ c.in_ok-extend_from_slice.ensures.items) in
    let stops =
    block_stops (Asked g.A.Answerer.is_done g.A.Answerer.answers) _ held rest at _ _ _ c.lines.invariant.none found.within found.feed found.first c.lines.invariant.takes g.A.Answerer.refuses _ _
    (rw piece at c.in_err-answer_line.ensures.stops) in
    rw (p.1, p.2) (c.lines.invariant.more, stops.0, c.in_err-answer_line.ensures.kept ∙ c.lines.invariant.prints, stops.1)
