use Rattle.std.proofs.Common.{◌≡◌, ◌⊎◌, [], true, ◌∙◌, sym}
use Rattle.std.specs.Prelude.{string_bytes}
use Rattle.haya_line_stream.specs.Answered.{Asked}
use Rattle.haya_line_stream.proofs.Reading.{part_written, some_ended, stopped_written}
use Rattle.haya_line_stream.proofs.stream.answer_rest.Goals as goal

pub returns-in-Ok-clause-part : goal.returns-in-Ok-clause-part
returns-in-Ok-clause-part g c =
    stopped_written (Asked g.A.Answerer.is_done g.A.Answerer.answers) g.A.Answerer.refuses _ c.args.answerer.now _ (string_bytes c.args.printed.now) (string_bytes c.take_end-answered.new.printed) c.requires.empty _ _
    c.take_end-answered.result c.take_end-answered.ensures.stops (rw c.as_str.ensures.value at c.in-Ok.ensures.written)

pub returns-in-Err-clause-part : goal.returns-in-Err-clause-part
returns-in-Err-clause-part g c =
    let (first, rest, parts, prints) = c.in-Err.ensures.begun in
    let some =
    some_ended (Asked g.A.Answerer.is_done g.A.Answerer.answers) g.A.Answerer.refuses _ c.args.answerer.now _ (string_bytes c.args.printed.now) (string_bytes c.take_end-answered.new.printed) c.requires.empty
    c.take_end-answered.new.answerer (λ later. (later ≡ []) ⊎ (g.A.Answerer.is_done c.take_end-answered.new.answerer ≡ true)) c.take_end-answered.result c.take_end-answered.ensures.all c.take_end-answered.ensures.stops in
    part_written (Asked g.A.Answerer.is_done g.A.Answerer.answers) g.A.Answerer.refuses _ _ c.args.answerer.now _ _ some.later some.last _ first rest _ (sym c.as_str.ensures.value ∙ parts) some.first prints
