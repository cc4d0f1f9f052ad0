use Rattle.std.proofs.Common.{arith}
use Rattle.haya_bibtex_inherited.proofs.Cutting.{IsCutting-pop}
use Rattle.haya_bibtex_inherited.proofs.search.join.Goals as goal

pub starts-preserved : goal.starts-preserved
starts-preserved c =
    let item = rw c.deref.ensures.value at c.in-Some.ensures.item in
    record {
      cutting = IsCutting-pop _ _ c.starts.starts.items c.pop.new.self.items c.in-Some.start.now _ c.starts.invariant.cutting
          (omega (arith, c.starts.starts.ok)) item.3.0 (item.3.1 0) c.pop.ensures.rest c.if-start-at.false;
      shorter = omega (arith, c.starts.invariant.shorter, c.pop.ensures.len, c.pop.new.self.ok, c.starts.starts.ok);
    }
