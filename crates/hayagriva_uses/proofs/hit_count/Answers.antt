use Rattle.std.proofs.Common.{arith}
use Rattle.std.proofs.lemmas.Slice.Zip.{AllZip-long}
use Rattle.hayagriva.specs.Query.{IsHit}
use Rattle.hayagriva_uses.proofs.hit_count.Goals as goal

pub returns : goal.returns
returns c =
    let (s, reads, hits) = c.in_ok-hits.ensures.answer in
    (s, reads, omega (arith, c.len.ensures, AllZip-long (IsHit s) _ _ hits))
