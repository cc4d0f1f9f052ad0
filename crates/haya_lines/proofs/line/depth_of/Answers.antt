use Rattle.std.proofs.Common.{rules, ◌∙◌}
use Rattle.haya_lines.proofs.Depths.{depth_read-no_number}
use Rattle.haya_lines.proofs.line.depth_of.Goals as goal

pub returns-in_err-depth : goal.returns-in_err-depth
returns-in_err-depth c = c.from_residual.ensures ∙ depth_read-no_number c.args.deepest c.args.item.now c.parse.result c.parse.ensures.value.0 (search rules) (search rules) (search rules)
