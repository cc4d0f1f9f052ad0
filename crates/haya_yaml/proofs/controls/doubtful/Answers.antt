use Rattle.std.proofs.Common.{◌≡◌, length, take, refl, arith}
use Rattle.std.proofs.lemmas.Simd.{zip2_splat, length-chunk}
use Rattle.haya_yaml.specs.Documents.{may_begin_control}
use Rattle.haya_yaml.proofs.Quiet.{joined, masked}
use Rattle.haya_yaml.proofs.controls.doubtful.Goals as goal

pub returns : goal.returns
returns c =
    let v = take 32 c.args.bytes.now in
    let long : length v ≡ 32 = length-chunk 0 32 c.args.bytes.now c.requires in
    masked may_begin_control c.args.bytes.now 32 _ c.requires (omega arith) c.type_inv.bytes _
    (joined _ _ _ v (joined _ _ _ v (joined _ _ _ v (joined _ _ _ v (zip2_splat _ v 32 32 long) (zip2_splat _ v 32 10 long)) (zip2_splat _ v 32 127 long)) (zip2_splat _ v 32 194 long)) (zip2_splat _ v 32 239 long)) refl
