use Rattle.std.proofs.Common.{◌≡◌, ◌+◌, ◌≤◌, drop, length, length-drop, true, false, ap, arith}
use Rattle.haya_yaml_text.specs.Turns.{goes_on, plain_length}
use Rattle.haya_yaml_text.proofs.Plain.{goes_on_some, plain_more, plain_stop}
use Rattle.haya_yaml_text.proofs.scalar.plain_length.Goals as goal

pub returns-then-not-goes_on-clause-is : goal.returns-then-not-goes_on-clause-is
returns-then-not-goes_on-clause-is c =
    let style = c.args.style in
    let left = c.split_at.result.1.now in
    let off : goes_on style left ≡ false = grind arith in
    let none : plain_length style left ≡ 0 = plain_stop style left off in
    let same = ap (plain_length style) c.split_at.ensures.back in
    omega (arith, none, same, c.sure_in-sure.ensures.more, c.signs.invariant.1)

pub signs-preserved : goal.signs-preserved
signs-preserved c =
    let style = c.args.style in
    let left = c.split_at.result.1.now in
    let on : goes_on style left ≡ true = grind arith in
    let some : 1 ≤ length left = goes_on_some style left on in
    let more : plain_length style left ≡ 1 + plain_length style (drop 1 left) = plain_more style left on in
    let same = ap (plain_length style) c.split_at.ensures.back in
    let back = c.split_at-in-signs.ensures.back in
    rw back (omega (arith, some, length-drop 1 left, c.split_at.ensures.front_len, c.split_at.ensures.back_len, c.sure_in-sure.ensures.within, c.signs.invariant.0), omega (arith, more, same, c.sure_in-sure.ensures.more, c.signs.invariant.1))
