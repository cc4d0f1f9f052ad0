use Rattle.std.proofs.Common.{◌≡◌, ◌<◌, List, ℕ, [], length, get_or, true, arith}
use Rattle.std.specs.Borrow.{Bor}
use Rattle.haya_yaml_slices.proofs.Pairs.{same_more}
use Rattle.haya_yaml_slices.proofs.saying.are_same.Goals as goal

pub texts-preserved : goal.texts-preserved
texts-preserved c =
    let empty : Bor (List ℕ) = record { ref_ptr = (0, 0); now = [] } in
    let texts = c.args.texts.now in
    let others = c.args.others.now in
    let at = c.texts.at in
    let also : at < length others = omega (arith, c.texts-test.true, c.if-texts-others.false) in
    let yes : c.is_same.result ≡ true = grind (arith, c.if-not-is_same.false) in
    let here : (get_or texts at empty).now ≡ (get_or others at empty).now = c.is_same.ensures yes in
    (omega (arith, c.texts-test.true), same_more texts others at empty c.texts-test.true also c.texts.invariant.1 here)
