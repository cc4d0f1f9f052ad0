use Rattle.std.proofs.Common.{◌≡◌, ◌⊎◌, true, ◌∙◌, sym}
use Rattle.std.specs.Prelude.{string_bytes}
use Rattle.haya_line_stream.specs.Answered.{Asked}
use Rattle.haya_line_stream.proofs.Reading.{block_written, part_ended}
use Rattle.haya_line_stream.specs.Turns.{HasNoFeed}
use Rattle.haya_line_stream.proofs.stream.answer_block.Goals as goal

pub returns-in-Ok-clause-part : goal.returns-in-Ok-clause-part
returns-in-Ok-clause-part g c =
    block_written (Asked g.A.Answerer.is_done g.A.Answerer.answers) g.A.Answerer.refuses _ c.args.answerer.now _ (string_bytes c.args.printed.now) (string_bytes c.take_block-answered.new.printed) c.requires.empty _ _
    c.take_block-answered.result c.take_block-answered.ensures.stops (rw c.as_str.ensures.value at c.in-Ok.ensures.written)

pub returns-in-Err-clause-part : goal.returns-in-Err-clause-part
returns-in-Err-clause-part g c =
    let (first, rest, parts, prints) = c.in-Err.ensures.begun in
    part_ended (Asked g.A.Answerer.is_done g.A.Answerer.answers) g.A.Answerer.refuses _ c.args.answerer.now _ (string_bytes c.args.printed.now) (string_bytes c.take_block-answered.new.printed) c.requires.empty
    _ _ _ first rest (sym c.as_str.ensures.value ∙ parts) prints
    c.take_block-answered.new.answerer (λ rest. (g.A.Answerer.is_done c.take_block-answered.new.answerer ≡ true) ⊎ ((rest ≡ c.take_block-answered.new.held.items) × HasNoFeed rest))
    c.take_block-answered.result c.take_block-answered.ensures.takes c.take_block-answered.ensures.stops
