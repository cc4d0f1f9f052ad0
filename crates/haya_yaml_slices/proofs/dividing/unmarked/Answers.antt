use Rattle.std.proofs.Common.{◌≡◌, ◌++◌, arith}
use Rattle.std.specs.Prelude.{encode_utf8}
use Rattle.haya_yaml_slices.proofs.dividing.unmarked.Goals as goal

pub returns-then-first-eq65279 : goal.returns-then-first-eq65279
returns-then-first-eq65279 c =
    let is : c.args.text.now ≡ encode_utf8 65279 ++ c.as_str.result.now = grind arith in
    (encode_utf8 65279, is)
