use Rattle.std.proofs.Common.{◌≡◌, ◌+◌, ◌≤◌, drop, drop-drop, length, length-drop, true, sym, ap, arith}
use Rattle.haya_yaml_text.specs.Turns.{goes_on, plain_length}
use Rattle.haya_yaml_text.specs.declared.scalar.Style.TheVariants.{Plain}
use Rattle.haya_yaml_text.proofs.Plain.{goes_on_some, plain_more}
use Rattle.haya_yaml_text.proofs.scalar.sure_length.Goals as goal

pub signs-preserved : goal.signs-preserved
signs-preserved c =
    let bytes = c.args.bytes.now in
    let n = c.signs.count in
    let left = drop n bytes in
    let on : goes_on Plain left ≡ true = grind arith in
    let some : 1 ≤ length left = goes_on_some Plain left on in
    let more : plain_length Plain left ≡ 1 + plain_length Plain (drop 1 left) = plain_more Plain left on in
    let on_from : plain_length Plain (drop (n + 1) bytes) ≡ plain_length Plain (drop 1 left) = ap (plain_length Plain) (sym (drop-drop 1 n bytes)) in
    (omega (arith, some, length-drop n bytes, c.signs.invariant.0), omega (arith, more, on_from, c.signs.invariant.1))
