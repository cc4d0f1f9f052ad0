use Rattle.std.proofs.Common.{◌≡◌, length, length-take, min, ap, ◌∙◌, arith}
use Rattle.haya_yaml.specs.Line.{indent}
use Rattle.haya_yaml.proofs.line.split_indent.Goals as goal

pub returns-clause-indent : goal.returns-clause-indent
returns-clause-indent c =
    let line = c.args.line.now in
    let all : length c.split_blanks.result.0.now ≡ min (indent line) (length line) = ap length c.split_blanks.ensures.front ∙ length-take (indent line) line in
    omega (arith, all, c.split_blanks.ensures.len)

pub returns-clause-len : goal.returns-clause-len
returns-clause-len c =
    let line = c.args.line.now in
    let all : length c.split_blanks.result.0.now ≡ min (indent line) (length line) = ap length c.split_blanks.ensures.front ∙ length-take (indent line) line in
    omega (arith, all, c.split_blanks.ensures.len)
