use Rattle.std.proofs.Common.{drop}
use Rattle.std.specs.Prelude.{string_bytes}
use Rattle.haya_hits.specs.Line.{IsEscapedLineOf}
use Rattle.haya_command.proofs.Lines.{Shown}
use Rattle.haya_command.proofs.printing.key_lines.Given as goal

abbrev pub invariant-hits : goal.invariant-hits
invariant-hits l = Shown IsEscapedLineOf l.hits (drop l.hit-index l.hits) (string_bytes l.text)
