use Rattle.std.proofs.Common.{◌≡◌, length, take, refl, arith}
use Rattle.std.proofs.lemmas.Simd.{zip2_splat, length-chunk}
use Rattle.haya_yaml.specs.Line.{is_feed}
use Rattle.haya_yaml.proofs.Quiet.{masked}
use Rattle.haya_yaml.proofs.feeds.feeds.Goals as goal

pub returns : goal.returns
returns c =
    let v = take 32 c.args.bytes.now in
    let long : length v ≡ 32 = length-chunk 0 32 c.args.bytes.now c.requires in
    masked is_feed c.args.bytes.now 32 _ c.requires (omega arith) c.type_inv.bytes _ (zip2_splat _ v 32 10 long) refl
