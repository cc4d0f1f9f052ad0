use Rattle.std.proofs.Common.{◌≡◌, ◌+◌, ◌≤◌, arith, drop, length, length-drop, subst}
use Rattle.haya_json_elements.specs.Steps.{KeepsFirst}
use Rattle.haya_json_elements.proofs.InPlace.{kept_more, one_more}
use Rattle.haya_json_elements.proofs.lines.put_lines.Goals as goal

pub bytes-preserved : goal.bytes-preserved
bytes-preserved c =
    let xs = c.bytes.bytes in
    let at = c.bytes.at in
    let n = c.kept_len-at.result in
    let back : c.split_at.result.1.now ≡ drop at xs = c.split_at.ensures.back in
    let there : n ≤ length (drop at xs) = subst (λ r. n ≤ length r) back c.kept_len-at.ensures.within in
    kept_more c.args.brackets c.args.place c.args.bytes.now c.bytes.place at n xs c.bytes.invariant
    (omega (arith, there, length-drop at xs, c.bytes.invariant.0)) there
    (subst (KeepsFirst c.bytes.place n) back c.kept_len-at.ensures.kept)

pub bytes-preserved-then-at-bytes : goal.bytes-preserved-then-at-bytes
bytes-preserved-then-at-bytes c =
    let xs = c.bytes.bytes in
    let at = c.bytes.at in
    let n = c.kept_len-at.result in
    let back : c.split_at.result.1.now ≡ drop at xs = c.split_at.ensures.back in
    let there : n ≤ length (drop at xs) = subst (λ r. n ≤ length r) back c.kept_len-at.ensures.within in
    one_more c.args.brackets c.args.place c.args.bytes.now c.bytes.place c.step-next.result.0
    c.step-next.result.1 (at + n) xs
    (kept_more c.args.brackets c.args.place c.args.bytes.now c.bytes.place at n xs
    c.bytes.invariant (omega (arith, there, length-drop at xs, c.bytes.invariant.0)) there
    (subst (KeepsFirst c.bytes.place n) back c.kept_len-at.ensures.kept))
    c.if-at-bytes.true c.step-next.ensures
