use Rattle.std.proofs.Common.{◌≡◌, false, sym, arith}
use Rattle.haya_yaml_text.specs.Numbers.{begins_number}
use Rattle.haya_yaml_text.proofs.Numbers.{no_number}
use Rattle.haya_yaml_text.proofs.resolved.is_number.Goals as goal

pub returns-then-not-begins_number : goal.returns-then-not-begins_number
returns-then-not-begins_number c =
    let off : begins_number c.args.text.now ≡ false = grind arith in
    sym (no_number c.args.text.now off)
