use Rattle.std.proofs.Common.{false, arith}
use Rattle.haya_yaml_text.proofs.Places.{within_blanks}
use Rattle.haya_yaml.proofs.literal.behind.Goals as goal

pub split_at-requires : goal.split_at-requires
split_at-requires c = within_blanks false c.args.line.now c.args.width c.utf8.line (grind arith)
