use Rattle.std.proofs.Common.{sym, ◌∙◌}
use Rattle.haya_text.proofs.Scans.{scan-left_alone}
use Rattle.haya_text.proofs.strings.reading.escaped.Goals as goal

pub returns-then-not-is_control-clause-reads : goal.returns-then-not-is_control-clause-reads
returns-then-not-is_control-clause-reads c = λ depth math. scan-left_alone depth math c.in-Some.c _ (sym c.peek.ensures ∙ c.in-Some.is) (sym c.is_control.ensures ∙ c.if-not-is_control.true)
