use Rattle.std.proofs.Common.{◌≡◌, Some, sym, ◌∙◌, arith}
use Rattle.haya_slices.proofs.Ending.{passed_more}
use Rattle.haya_slices.proofs.coming.Search.pass.Goals as goal

pub bytes-preserved : goal.bytes-preserved
bytes-preserved c =
    let b = c.args.brackets in
    let some : c.passed.result ≡ Some (c.in-Some.next, c.in-Some.deep) = cc (c.in-Some.is) in
    record {
      passed =
          passed_more b c.args.rest.now c.bytes.at c.bytes.mode c.bytes.depth c.in-Some.next c.in-Some.deep
          (omega arith) c.bytes.invariant.passed (sym (c.passed.ensures b) ∙ some);
      white = c.bytes.invariant.white;
    }
