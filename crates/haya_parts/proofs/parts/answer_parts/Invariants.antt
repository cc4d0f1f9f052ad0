use Rattle.std.proofs.Common.{◌≡◌, [], ℕ, List}
use Rattle.std.specs.Prelude.{string_bytes}
use Rattle.haya_parts.proofs.Stopping.{Reads}
use Rattle.haya_parts.proofs.parts.answer_parts.Given as goal

-- what was read is answered, but for what is held
abbrev pub invariant-reads : goal.invariant-reads
invariant-reads g l = record {
  empty : string_bytes l.buffers.printed ≡ [];
  read : Reads g.D.Divider.divides g.D.Divider.are_parts g.A.Answerer.answers
      g.A.Answerer.refuses g.A.Answerer.is_done l.fn.divider l.fn.answerer
      (g.R.Read.remaining l.fn.input) (g.W.Write.contents l.fn.out) l.divider l.answerer
      (g.R.Read.remaining l.input) (g.W.Write.contents l.out) l.buffers.held.items;
  same : (text : List ℕ) (parts : List (List ℕ)) → g.D.Divider.are_parts l.divider text parts →
      g.D.Divider.are_parts l.fn.divider text parts;
}
