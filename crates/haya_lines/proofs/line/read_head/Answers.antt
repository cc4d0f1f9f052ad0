use Rattle.std.proofs.Common.{sym, ap, ◌∙◌}
use Rattle.std.specs.Result.{result_ok}
use Rattle.haya_lines.proofs.Rows.{head_read}
use Rattle.haya_lines.proofs.line.read_head.Goals as goal

pub returns-clause-head : goal.returns-clause-head
returns-clause-head c =
    head_read _ _ _ _ _ c.args.deepest _ _ c.in-Some.ensures (sym c.depth_of.ensures ∙ c.in-Some-depth_of.is) (sym c.parse.ensures.value ∙ ap result_ok c.in-Ok.is)
