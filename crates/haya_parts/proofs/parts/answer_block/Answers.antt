use Rattle.std.proofs.Common.{◌≡◌, ◌++◌, [], sym, ◌∙◌}
use Rattle.std.specs.Prelude.{string_bytes}
use Rattle.std.proofs.KnownBytes.{Appends-nil}
use Rattle.std.proofs.lemmas.Result.{err_from_is_err_and}
use Rattle.haya_parts.proofs.Moving.{none_moved}
use Rattle.haya_parts.proofs.Stopping.{block_unwritten, stop_all, stop_written, stops_here}
use Rattle.haya_parts.proofs.parts.answer_block.Goals as goal

pub returns-in_err-extend_from_slice-clause-stops :
    goal.returns-in_err-extend_from_slice-clause-stops
returns-in_err-extend_from_slice-clause-stops g c =
    let p = err_from_is_err_and c.from_residual.result c.from_residual.ensures.1 in
    let held = c.args.buffers.now.held.items ++ c.args.block.now in
    rw (p.1, p.2)
    (stop_written g.D.Divider.divides g.D.Divider.are_parts g.A.Answerer.answers g.A.Answerer.refuses g.A.Answerer.is_done c.args.divider.now c.args.answerer.now c.args.answerer.now held [] _ _ _
    (stops_here g.D.Divider.divides g.D.Divider.are_parts g.A.Answerer.answers g.A.Answerer.refuses g.A.Answerer.is_done c.args.divider.now c.args.divider.now c.args.answerer.now c.args.answerer.now
    c.args.answerer.now held held [] _ (none_moved g.D.Divider.divides g.A.Answerer.answers g.A.Answerer.is_done c.args.divider.now c.args.answerer.now held) tt)
    (Appends-nil _))

pub returns-in_err-taken-in-Ok-clause-stops : goal.returns-in_err-taken-in-Ok-clause-stops
returns-in_err-taken-in-Ok-clause-stops g c =
    let p = err_from_is_err_and c.from_residual-in_err-taken-in-Ok.result
    c.from_residual-in_err-taken-in-Ok.ensures.1 in
    let held = c.args.buffers.now.held.items ++ c.args.block.now in
    let is : c.as_slice.result.now ≡ held = c.as_slice.ensures.value ∙ c.in_ok-extend_from_slice.ensures.items in
    let stop = rw is at c.in_err-taken-in-Ok.ensures.stops in
    rw (p.1, p.2)
    (stop_all g.D.Divider.divides g.D.Divider.are_parts g.A.Answerer.answers g.A.Answerer.refuses g.A.Answerer.is_done c.args.divider.now c.args.answerer.now c.take_parts-taken.new.answerer held
    (string_bytes c.args.buffers.now.printed) (string_bytes c.take_parts-taken.new.printed) _ _ _
    c.requires.empty stop (rw c.as_str.ensures.value at c.in-Ok.ensures.written))

pub returns-in-Err-clause-stops : goal.returns-in-Err-clause-stops
returns-in-Err-clause-stops g c =
    let (first, rest, parts, prints) = c.in-Err.ensures.begun in
    let held = c.args.buffers.now.held.items ++ c.args.block.now in
    let is : c.as_slice.result.now ≡ held = c.as_slice.ensures.value ∙ c.in_ok-extend_from_slice.ensures.items in
    block_unwritten g.D.Divider.divides g.D.Divider.are_parts g.A.Answerer.answers g.A.Answerer.refuses g.A.Answerer.is_done c.args.divider.now c.args.answerer.now c.take_parts-taken.new.answerer held
    (string_bytes c.args.buffers.now.printed) (string_bytes c.take_parts-taken.new.printed) first rest _ _ _
    c.requires.empty (sym c.as_str.ensures.value ∙ parts) prints c.take_parts-taken.new.divider
    c.take_parts-taken.result (rw is at c.take_parts-taken.ensures.moves)
    (rw is at c.take_parts-taken.ensures.stops)
