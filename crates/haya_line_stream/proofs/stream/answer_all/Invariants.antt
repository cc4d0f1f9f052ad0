use Rattle.std.proofs.Common.{◌≡◌, ◌⊎◌, []}
use Rattle.std.specs.Prelude.{string_bytes}
use Rattle.haya_line_stream.specs.Answered.{Asked}
use Rattle.haya_line_stream.specs.Streamed.{AnswersEnough}
use Rattle.haya_line_stream.specs.Turns.{HasNoFeed}
use Rattle.haya_line_stream.proofs.Reading.{Reads}
use Rattle.haya_line_stream.proofs.stream.answer_all.Given as goal

-- enough is answered, or the lines in front of what is held are
abbrev pub invariant-reads : goal.invariant-reads
invariant-reads g l = record {
  empty : string_bytes l.printed ≡ [];
  read :
      AnswersEnough (Asked g.A.Answerer.is_done g.A.Answerer.answers) g.A.Answerer.is_done l.fn.answerer l.answerer (g.R.Read.remaining l.fn.input) (g.R.Read.remaining l.input)
      (g.W.Write.contents l.fn.out) (g.W.Write.contents l.out)
      ⊎ (Reads (Asked g.A.Answerer.is_done g.A.Answerer.answers) l.fn.answerer l.answerer (g.R.Read.remaining l.fn.input) (g.R.Read.remaining l.input) (g.W.Write.contents l.fn.out)
      (g.W.Write.contents l.out) l.held.items
      × HasNoFeed l.held.items);
}
