use Rattle.std.proofs.Common.{◌≡◌, ◌++◌, ℕ, List, length}
use Rattle.std.specs.Prelude.{string_bytes}
use Rattle.haya_parts.specs.Answered.{Moves}
use Rattle.haya_parts.specs.Divided.{Begun}
use Rattle.haya_parts.proofs.parts.take_parts.Given as goal

-- the parts in front of the rest are answered
abbrev pub invariant-parts : goal.invariant-parts
invariant-parts g l = record {
  begun : Begun g.D.Divider.divides l.divider l.rest;
  more : List ℕ;
  moves : Moves g.D.Divider.divides g.A.Answerer.answers g.A.Answerer.is_done l.fn.divider l.divider
      l.fn.answerer l.answerer l.fn.held l.rest more;
  prints : string_bytes l.printed ≡ string_bytes l.fn.printed ++ more;
  same : (text : List ℕ) (parts : List (List ℕ)) → g.D.Divider.are_parts l.divider text parts →
      g.D.Divider.are_parts l.fn.divider text parts;
}

abbrev pub decreases-parts : goal.decreases-parts
decreases-parts g l = length l.rest
