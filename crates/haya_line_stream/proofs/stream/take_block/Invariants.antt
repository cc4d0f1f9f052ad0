use Rattle.std.proofs.Common.{◌≡◌, ◌++◌, ℕ, List, length}
use Rattle.std.specs.Prelude.{string_bytes}
use Rattle.haya_line_stream.specs.Answered.{Takes}
use Rattle.haya_line_stream.specs.Turns.{HasNoFeed}
use Rattle.haya_line_stream.specs.Answered.{Asked}
use Rattle.haya_line_stream.proofs.stream.take_block.Given as goal

-- the lines in front of what is held, and of the rest, are answered
abbrev pub invariant-lines : goal.invariant-lines
invariant-lines g l = record {
  none : HasNoFeed l.held.items;
  more : List ℕ;
  takes : Takes (Asked g.A.Answerer.is_done g.A.Answerer.answers) (l.fn.held.items ++ l.block) (l.held.items ++ l.rest) l.fn.answerer l.answerer more;
  prints : string_bytes l.printed ≡ string_bytes l.fn.printed ++ more;
}

abbrev pub decreases-lines : goal.decreases-lines
decreases-lines g l = length l.rest
