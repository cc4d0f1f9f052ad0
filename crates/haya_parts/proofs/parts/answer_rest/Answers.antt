use Rattle.std.proofs.Common.{inl, sym, ◌∙◌}
use Rattle.std.specs.Prelude.{string_bytes}
use Rattle.haya_parts.proofs.Stopping.{if_err_weaker, rest_unwritten, stopped_written}
use Rattle.haya_parts.proofs.parts.answer_rest.Goals as goal

pub returns-in-Ok-clause-stops : goal.returns-in-Ok-clause-stops
returns-in-Ok-clause-stops g c =
    if_err_weaker c.take_last-answered.result _ _
    (stopped_written g.D.Divider.divides g.D.Divider.are_parts g.A.Answerer.answers g.A.Answerer.refuses g.A.Answerer.is_done c.args.divider.now c.args.answerer.now c.take_last-answered.new.answerer
    c.args.buffers.now.held.items (string_bytes c.args.buffers.now.printed) (string_bytes c.take_last-answered.new.printed) _ _
    c.take_last-answered.result c.requires.empty (rw c.as_slice.ensures.value at c.take_last-answered.ensures.stops)
    (rw c.as_str.ensures.value at c.in-Ok.ensures.written))
    (λ fault stop. inl stop)

pub returns-in-Err-clause-stops : goal.returns-in-Err-clause-stops
returns-in-Err-clause-stops g c =
    let (first, rest, parts, prints) = c.in-Err.ensures.begun in
    rest_unwritten g.D.Divider.divides g.D.Divider.are_parts g.A.Answerer.answers g.A.Answerer.refuses g.A.Answerer.is_done c.args.divider.now c.args.answerer.now c.take_last-answered.new.answerer
    c.args.buffers.now.held.items (string_bytes c.args.buffers.now.printed) (string_bytes c.take_last-answered.new.printed)
    first rest _ _ _ c.requires.empty (sym c.as_str.ensures.value ∙ parts) prints
    c.take_last-answered.result (rw c.as_slice.ensures.value at c.take_last-answered.ensures.ends)
    (rw c.as_slice.ensures.value at c.take_last-answered.ensures.stops)
